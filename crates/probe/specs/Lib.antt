pub mod Same
pub mod Instruction
pub mod Depths
pub mod Before
