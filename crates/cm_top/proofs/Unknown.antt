-- A first word that is no command.
use Rattle.std.proofs.Common.{◌≡◌, ℕ, Bool, true, false, if◌then◌else◌, List, [], ◌∷◌, length, get_or, codes, Result, Err, refl, sym, ◌∙◌, ap}
use Rattle.std.specs.Prelude.{◌==◌, String, string_bytes}
use Rattle.std.specs.Str.{bytes_eq}
use Rattle.std.proofs.lemmas.Bool.{false≢true}
use Rattle.std.proofs.lemmas.Slice.Eq.{bytes_eq-Decides}
use Rattle.cm_top.specs.Words.{texts, read_init, read_add, read_update, read_list, read_drop, read_validate, read_what_if, read_purge, read_topology, read_line}
use Rattle.cm_top.specs.declared.fault.WordsFault.{WordsFault}
use Rattle.cm_top.specs.declared.fault.WordsFault.TheVariants.{UnknownCommand}
use Rattle.cm_top.specs.declared.line.Line.{Line}

-- a command of another name is passed over
passed : (word name : List ℕ) (x y : Result Line WordsFault) → (word ≡ name → ⊥) → (if bytes_eq word name then x else y) ≡ y
passed word name x y other = by (bytes_eq word name) refl
  where
    by : (b : Bool) → bytes_eq word name ≡ b → (if b then x else y) ≡ y
    by true is = absurd (other ((bytes_eq-Decides word name).0 is))
    by false is = refl

unknown_of : (word : List ℕ) (rest : List (List ℕ)) → (word ≡ codes "init" → ⊥) → (word ≡ codes "add" → ⊥) → (word ≡ codes "update" → ⊥) → (word ≡ codes "list" → ⊥) → (word ≡ codes "drop" → ⊥)
    → (word ≡ codes "validate" → ⊥) → (word ≡ codes "what-if" → ⊥) → (word ≡ codes "purge" → ⊥) → (word ≡ codes "topology" → ⊥) → read_line (word ∷ rest) ≡ Err UnknownCommand
unknown_of word rest no_init no_add no_update no_list no_drop no_validate no_what_if no_purge no_topology =
    passed word (codes "init") (read_init rest) _ no_init
    ∙ (passed word (codes "add") (read_add rest) _ no_add
    ∙ (passed word (codes "update") (read_update rest) _ no_update
    ∙ (passed word (codes "list") (read_list rest) _ no_list
    ∙ (passed word (codes "drop") (read_drop rest) _ no_drop
    ∙ (passed word (codes "validate") (read_validate rest) _ no_validate
    ∙ (passed word (codes "what-if") (read_what_if rest) _ no_what_if
    ∙ (passed word (codes "purge") (read_purge rest) _ no_purge
    ∙ passed word (codes "topology") (read_topology rest) (Err UnknownCommand) no_topology)))))))

-- the first of some words, and the others
first_of_all : {A : Type 0} (words : List (String A)) (first : String A) (text : List ℕ) → (length words == 0) ≡ false → first ≡ get_or words 0 first → text ≡ string_bytes first
    → (rest : List (List ℕ)) × (texts words ≡ text ∷ rest)
first_of_all [] first text there is bytes = absurd (false≢true (sym there))
first_of_all {A} (word ∷ words) first text there is bytes =
    let same : word ≡ first = sym is in
    (texts words, ap (λ (w : String A). string_bytes w ∷ texts words) same ∙ ap (λ (t : List ℕ). t ∷ texts words) (sym bytes))

pub unknown : {A : Type 0} (words : List (String A)) (first : String A) (text : List ℕ) → (length words == 0) ≡ false → first ≡ get_or words 0 first → text ≡ string_bytes first
    → (text ≡ codes "init" → ⊥) → (text ≡ codes "add" → ⊥) → (text ≡ codes "update" → ⊥) → (text ≡ codes "list" → ⊥) → (text ≡ codes "drop" → ⊥)
    → (text ≡ codes "validate" → ⊥) → (text ≡ codes "what-if" → ⊥) → (text ≡ codes "purge" → ⊥) → (text ≡ codes "topology" → ⊥) → read_line (texts words) ≡ Err UnknownCommand
unknown words first text there is bytes no_init no_add no_update no_list no_drop no_validate no_what_if no_purge no_topology =
    let all = first_of_all words first text there is bytes in
    ap read_line all.1 ∙ unknown_of text all.0 no_init no_add no_update no_list no_drop no_validate no_what_if no_purge no_topology
