-- One source more in a walk.
use Rattle.std.proofs.Common.{◌≡◌, ℕ, ◌+◌, ◌<◌, List, [], ◌∷◌, ◌++◌, length, take, cond, Result, Ok, Err, OnErr, Option, None, Some, refl, sym, ap, ◌∙◌, arith, add-one, add-zero, append_assoc, get_or}
use Rattle.std.proofs.lemmas.List.Sums.{sum_by-append}
use Rattle.std.proofs.Math.Seq.{take-suc}
use Rattle.cm_peer.specs.declared.offers.Want.{Want}
use Rattle.cm_peer.specs.declared.offers.Answer.{Answer}
use Rattle.cm_peer.specs.declared.sources.SourceRow.{SourceRow}
use Rattle.cm_peer.specs.declared.sources.Why.{Why}
use Rattle.cm_peer.specs.declared.sources.Why.TheVariants.{Cause, Link, OtherManifest}
use Rattle.cm_peer.specs.declared.sources.Refused.{Refused}
use Rattle.cm_peer.specs.declared.sources.Walk.{Walk}
use Rattle.cm_base.specs.declared.memory.Memory.{Memory}
use Rattle.cm_peer.specs.Links.{IsSameTest, WasAsked, RoseBy}
use Rattle.cm_peer.specs.Walks.{IsWhy, AreRefused, link_count, link_faults, is_link}

-- a reason by a test is one by the same test
pub IsWhy-same : (old new : SourceRow → Want → Answer → Type 0) (want : Want) (source : SourceRow) (why : Why)
    → IsSameTest old new → IsWhy new want source why → IsWhy old want source why
IsWhy-same old new want source (Cause cause) same h = (same source want _).1 h
IsWhy-same old new want source Link same h = h
IsWhy-same old new want source (OtherManifest got) same h = (h.0, (same source want _).1 h.1)

-- the same test over two calls
pub IsSameTest-trans : (a b c : SourceRow → Want → Answer → Type 0) → IsSameTest a b → IsSameTest b c → IsSameTest a c
IsSameTest-trans a b c h k = λ source want answer. ((λ x. (k source want answer).0 ((h source want answer).0 x)), (λ x. (h source want answer).1 ((k source want answer).1 x)))

-- one source more did not serve
pub AreRefused-append : (gives : SourceRow → Want → Answer → Type 0) (want : Want) (number : ℕ) (sources : List SourceRow) (refusals : List Refused) (source : SourceRow) (refused : Refused)
    → AreRefused gives want number sources refusals → refused.source ≡ number + length sources → IsWhy gives want source refused.why
    → AreRefused gives want number (sources ++ source ∷ []) (refusals ++ refused ∷ [])
AreRefused-append gives want number [] [] source refused h e w = (e ∙ add-zero number, w, tt)
AreRefused-append gives want number [] (other ∷ refusals) source refused h e w = absurd h
AreRefused-append gives want number (first ∷ sources) [] source refused h e w = absurd h
AreRefused-append gives want number (first ∷ sources) (other ∷ refusals) source refused h e w =
    let n : refused.source ≡ number + 1 + length sources = omega arith in
    (h.0, h.1, AreRefused-append gives want (number + 1) sources refusals source refused h.2 n w)

-- sources asked behind others
pub WasAsked-append : (a b c : Option (List SourceRow)) (these those : List SourceRow)
    → WasAsked a b these → WasAsked b c those → WasAsked a c (these ++ those)
WasAsked-append a b None these those h k = λ now e. absurd (cc)
WasAsked-append a None (Some last) these those h k = λ now e. absurd (let f = k last refl in cc)
WasAsked-append None (Some middle) (Some last) these those h k = λ now e. absurd (let f = h middle refl in cc)
WasAsked-append (Some first) (Some middle) (Some last) these those h k =
    λ now e. let f = h middle refl in let g = k last refl in
    ap Some (sym (append_assoc first these those)) ∙ cc

-- one source more was looked at
pub take-more : (sources : List SourceRow) (number : ℕ) (source : SourceRow) → number < length sources → source ≡ get_or sources number source
    → take (number + 1) sources ≡ take number sources ++ source ∷ []
take-more sources number source h e = rw add-one (take-suc sources number source h ∙ ap (λ (x : SourceRow). take number sources ++ x ∷ []) (sym e))

-- one refusal more is counted, where the link failed
pub link_count-append : (refusals : List Refused) (refused : Refused) → link_count (refusals ++ refused ∷ []) ≡ link_count refusals + link_faults (Some refused.why)
link_count-append refusals refused = omega (arith, sum_by-append (λ (r : Refused). cond (is_link r.why) 1 0) refusals (refused ∷ []))

-- a count that has risen twice
pub RoseBy-add : (m n a b c : ℕ) → RoseBy m a b → RoseBy n b c → RoseBy (m + n) a c
RoseBy-add m n a b c h k = omega arith

-- what holds whatever was answered
pub OnErr-always : (answer : Result Walk Memory) (P : Type 0) → P → OnErr answer P
OnErr-always (Ok walk) P h = tt
OnErr-always (Err memory) P h = h
