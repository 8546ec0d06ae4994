pub mod Lexemes
