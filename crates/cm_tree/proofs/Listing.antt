-- Paths of the host that rise.
use Rattle.std.proofs.Common.{◌≡◌, ℕ, suc, ◌+◌, ◌-◌, ◌<◌, ◌≤◌, true, List, length, take, Option, Some, option_map, sym, ap, ◌∙◌, arith}
use Rattle.std.specs.Prelude.{String, string_bytes}
use Rattle.std.specs.declared.alloc.Global.{Global}
use Rattle.std.specs.List.{slice_get}
use Rattle.std.proofs.Math.ListN.{get_or}
use Rattle.std.proofs.lemmas.Option.{slice_get-map}
use Rattle.cm_tree.specs.Paths.{is_before, is_rising}
use Rattle.cm_tree.specs.Reading.{is_behind}
use Rattle.cm_tree.specs.HostFolders.{texts_of}
use Rattle.cm_tree.proofs.Kept.{get_here, behind_at}
use Rattle.cm_tree.proofs.Places.{take_push}
use Rattle.cm_tree.proofs.Rising.{rising_push}

text_here : (paths : List (String Global)) (n : ℕ) (p : String Global) → n < length paths → p ≡ get_or paths n p → slice_get (texts_of paths) n ≡ Some (string_bytes p)
text_here paths n p lt is = slice_get-map (λ (s : String Global). string_bytes s) paths n ∙ ap (λ (o : Option (String Global)). option_map (λ (s : String Global). string_bytes s) o) (get_here paths n p lt is)

pub rises_on : (paths : List (String Global)) (i : ℕ) (a b : String Global) → 1 ≤ i → i < length paths → a ≡ get_or paths (i - 1) a → b ≡ get_or paths i b
    → is_before (string_bytes a) (string_bytes b) ≡ true → is_rising (take i (texts_of paths)) ≡ true → is_rising (take (i + 1) (texts_of paths)) ≡ true
rises_on paths i a b some lt is_a is_b before up =
    let texts = texts_of paths in
    let k : suc (i - 1) ≡ i = omega arith in
    let j : i + 1 ≡ suc i = omega arith in
    let behind : is_behind (take i texts) (string_bytes b) ≡ true =
    ap (λ n. is_behind (take n texts) (string_bytes b)) (sym k) ∙ behind_at texts (i - 1) (string_bytes a) (string_bytes b) (text_here paths (i - 1) a (omega arith) is_a) before in
    ap (λ n. is_rising (take n texts)) j
    ∙ (ap is_rising (take_push texts i (string_bytes b) (text_here paths i b lt is_b))
    ∙ rising_push (take i texts) (string_bytes b) up behind)
