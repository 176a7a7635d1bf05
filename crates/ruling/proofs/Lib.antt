-- The laws of one jump, of what an instruction needs and of its rule, of its jumps in their order, and what an answer tells of
-- the rule.
pub mod Jump
pub mod Tests
pub mod Jumps
pub mod Laws
