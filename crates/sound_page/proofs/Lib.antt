pub mod Links
pub mod ChainPlaces
pub mod Undone
pub mod ReaderLemmas
pub mod SoundChains
pub mod Empty
