pub mod CuttingLaws
pub mod AskingLemmas
pub mod TellingLemmas
pub mod RulingLemmas
pub mod ExchangeLemmas
pub mod TextLemmas
pub mod FailureLemmas
