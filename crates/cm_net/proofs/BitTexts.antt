-- A number of bits, read as a part that stands alone.
use Rattle.std.proofs.Common.{◌≡◌, ℕ, ◌+◌, ◌<◌, ◌≤◌, Bool, true, false, cond, eqb, List, [], ◌∷◌, ◌++◌, length, take, drop, get_or, Option, None, Some, refl, sym, ap, ◌∙◌, subst, arith, take-append-drop}
use Rattle.std.specs.Option.{option_and_then}
use Rattle.std.proofs.lemmas.List.{take_more}
use Rattle.std.proofs.lemmas.Bool.{eqb-true}
use Rattle.cm_net.specs.Addresses.{decimal, IsPart}
use Rattle.cm_net.specs.FourReader.{Four, start4, step4, lone4}
use Rattle.cm_net.specs.Written.{IsBits}
use Rattle.cm_net.proofs.JoinedTexts.{Whole}
use Rattle.cm_net.specs.Machines.{run}
use Rattle.cm_net.proofs.Machines.{run-append, run-none}
use Rattle.cm_net.proofs.FourTexts.{read_decimal, Spelled4, spelled4}

abbrev pub alone : ℕ → Four
alone p = record { count = 0; value = 0; part = Some p }

pub bits_read : (most bits : ℕ) (text : List ℕ) → most < 256 → IsBits most text bits → run step4 (Some start4) text ≡ Some (alone bits)
bits_read most bits text small is = rw is.spelled (read_decimal 0 0 bits (omega (arith, is.few)))

pub bits_stuck : (most bits at : ℕ) (text : List ℕ) (s : Four) → most < 256 → at < length text → run step4 (Some start4) (take at text) ≡ Some s → step4 s (get_or text at 0) ≡ None → IsBits most text bits → ⊥
bits_stuck most bits at text s small below read stuck is =
    let none : run step4 (Some start4) (take (at + 1) text) ≡ None =
    ap (λ (t : List ℕ). run step4 (Some start4) t) (take_more text at 0 below)
    ∙ (run-append step4 (Some start4) (take at text) (get_or text at 0 ∷ [])
    ∙ (ap (λ (o : Option Four). option_and_then (λ (u : Four). step4 u (get_or text at 0)) o) read ∙ stuck)) in
    let all : run step4 (Some start4) text ≡ None =
    ap (λ (t : List ℕ). run step4 (Some start4) t) (sym (take-append-drop (at + 1) text))
    ∙ (run-append step4 (Some start4) (take (at + 1) text) (drop (at + 1) text)
    ∙ (ap (λ (o : Option Four). run step4 o (drop (at + 1) text)) none ∙ run-none step4 (drop (at + 1) text))) in
    let no : None ≡ Some (alone bits) = sym all ∙ bits_read most bits text small is in cc

alone_is : (most p k v : ℕ) (part : Option ℕ) (text : List ℕ) (none : Bool) → eqb k 0 ≡ none → cond none part None ≡ Some p → p ≤ most → Spelled4 k v part text → IsBits most text p
alone_is most p k v None text true e is few was = let no : None ≡ Some p = is in cc
alone_is most p k v (Some q) text true e is few was =
    let same : q ≡ p = cc in
    let zero_ : k ≡ 0 = eqb-true k 0 e in
    let whole : Whole IsPart 46 256 0 was.2 v = rw zero_ at was.3 in
    record { few = few; spelled = was.4 ∙ (ap (λ (t : List ℕ). t ++ decimal q) whole.0 ∙ ap (λ (n : ℕ). decimal n) same) }
alone_is most p k v part text false e is few was = let no : None ≡ Some p = is in cc

pub bits_lone : (most p : ℕ) (text : List ℕ) (s : Four) → run step4 (Some start4) text ≡ Some s → lone4 s ≡ Some p → p ≤ most → IsBits most text p
bits_lone most p text s read is few = alone_is most p s.count s.value s.part text (eqb s.count 0) refl is few (spelled4 text s read)

-- what stands alone is the number of bits, where the text spells one
pub bits_other : (most bits : ℕ) (text : List ℕ) (s : Four) → most < 256 → run step4 (Some start4) text ≡ Some s → IsBits most text bits → lone4 s ≡ Some bits
bits_other most bits text s small read is =
    let same : Some (alone bits) ≡ Some s = sym (bits_read most bits text small is) ∙ read in
    let one : alone bits ≡ s = cc in
    subst (λ (u : Four). lone4 u ≡ Some bits) one refl

pub bits_none : (most bits : ℕ) (text : List ℕ) (s : Four) → most < 256 → run step4 (Some start4) text ≡ Some s → None ≡ lone4 s → IsBits most text bits → ⊥
bits_none most bits text s small read none is = let no : None ≡ Some bits = none ∙ bits_other most bits text s small read is in cc

pub bits_many : (most bits p : ℕ) (text : List ℕ) (s : Four) → most < 256 → run step4 (Some start4) text ≡ Some s → Some p ≡ lone4 s → most < p → IsBits most text bits → ⊥
bits_many most bits p text s small read some many is =
    let both : Some p ≡ Some bits = some ∙ bits_other most bits text s small read is in
    let same : p ≡ bits = cc in
    omega (arith, is.few, many, same)
