-- Sums, the rows around W, the curve and its areas: laws of specs/Loading, Leaves and Curve, and what holds of every ship that is judged (specs/Ranges).
pub mod Sums
pub mod EntryLimits
pub mod OneEntry
pub mod Cargo
pub mod Rows
pub mod Levers
pub mod Areas
pub mod Fair
