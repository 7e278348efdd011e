pub mod BarsLemmas
pub mod SettingsLemmas
