pub mod Walks
pub mod Chains
pub mod Seen
pub mod Alone
pub mod SeenWalks
