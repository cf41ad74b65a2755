-- The bytes that tokens are made of.
pub use Rattle.up_text.specs.Bytes.{is_blank, is_letter, is_digit, is_name_byte, fold_byte, first, front_length}
