pub mod Pool
pub mod Chain
pub mod WholePool
pub mod Others
