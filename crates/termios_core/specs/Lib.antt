pub mod Flags
pub mod Termios
pub mod Text
pub mod Reading
