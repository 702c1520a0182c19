-- Numbers in bytes, fields, characters and lines, places: laws of specs/Numbers, Text, Blocks, Layout, Parts, Places, Mistyped, Tags, Cargo and Timber, and 01's limits restated.
pub mod Numbers
pub mod Fields
pub mod Lines
pub mod LineAt
pub mod Parts
pub mod Edges
pub mod Counts
pub mod Rows
pub mod Smooth
pub mod InsideParent
pub mod OtherTag
pub mod Retagged
