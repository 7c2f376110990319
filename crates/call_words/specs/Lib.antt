pub mod Calls
pub mod Events
pub mod Groups
pub mod Programs
pub use Rattle.sys_types.specs.Rules
pub use Rattle.sys_types.specs.Images
pub use Rattle.sys_types.specs.Signals
