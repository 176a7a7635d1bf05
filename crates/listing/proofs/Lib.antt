pub mod WalkLaws
pub mod Starts
pub mod Marked
pub mod Before
pub mod Items
pub mod Once
