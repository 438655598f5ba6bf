-- How left corners are read. `rust` stops at every symbol, whatever its quantifier, as collect_left_corner_calls does
-- (mutual_recursion.rs, l. 1157); `textbook` looks past everything that can be empty (SPECIFICATION 14).
pub data Corners : Type 0 where
  rust : Corners
  textbook : Corners
