-- Text in bytes: numerals, decimal fields, columns.
pub mod Ascii
pub mod Decimal
pub mod Fields
pub mod Numeral
pub mod Scan
pub mod Width
pub mod Numbers
pub mod Columns
