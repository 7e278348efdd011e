pub mod Bits
pub mod Statuses
pub mod Growth
pub mod Changing
pub mod Placing
pub mod Slotted
pub mod Altered
pub mod Counted
