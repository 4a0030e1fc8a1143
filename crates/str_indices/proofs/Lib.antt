pub mod Crlf
