pub mod OneLine
pub mod Outputs
pub mod Ends
pub mod Come
pub mod Uses
pub mod Boots
pub mod Tops
pub mod Loads
