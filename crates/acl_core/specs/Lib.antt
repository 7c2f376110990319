pub mod Perm
pub mod Entry
pub mod Acl
pub mod Deciding
pub mod Mode
pub mod Walk
pub mod Text
pub mod Reading
