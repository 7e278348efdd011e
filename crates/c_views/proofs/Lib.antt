pub mod ActionsLemmas
mod BytesLemmas
