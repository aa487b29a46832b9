-- The hash that a text spells.
use Rattle.std.specs.Prelude.{ℕ, List, Option, None, cond}
use Rattle.std.specs.Result.{result_ok}
use Rattle.hex.specs.Hex.{decode_of}
use Rattle.cm_base.specs.Names.{is_hash_text}

-- the bytes that 64 lower-case hexadecimal digits spell
abbrev pub hash_of_text : List ℕ → Option (List ℕ)
hash_of_text text = cond (is_hash_text text) (result_ok (decode_of text)) None
