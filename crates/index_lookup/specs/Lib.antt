pub mod Pages
pub mod Looking
pub mod Walking
pub mod Keys
pub mod ByPlace
