-- The laws of the tests, of the first pass and of each way out; what is established where all tests pass; and that each
-- input has one outcome.
pub mod Tests
pub mod Constants
pub mod Pass
pub mod Held
pub mod Parameters
pub mod Order
pub mod Established
pub mod Once
