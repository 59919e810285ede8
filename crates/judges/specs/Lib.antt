pub mod Margin
pub mod Meaning
pub mod Screen
pub mod Tick
pub mod WorstStart
-- proofs of the laws, which the impls cite
pub mod Above
pub mod MarginLaws
pub mod ScreenLaws
pub mod TickLaws
pub mod WorstStartLaws
