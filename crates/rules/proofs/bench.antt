-- The bench sheet and other worked texts, by computation.
pub mod Cases
pub mod Bench
pub mod Booklet
pub mod Page
pub mod Slips
pub mod MistypedRow
pub mod Drawing
pub mod Regrouped
pub mod CargoTank
pub mod TimberDeck
