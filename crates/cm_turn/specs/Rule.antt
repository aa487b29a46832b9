-- The rule of a turnstile: one word, one slot, and the views of all seats. Each step keeps it.
use Rattle.std.specs.Prelude.{◌≡◌, ℕ, ◌+◌, ◌*◌, ◌<◌, ltb, Bool, true, false, ◌⊎◌, List, [], ◌∷◌, length, Option, Some, None}
use mathlib.Core.Option.{some}
use mathlib.Core.Option as maybe
use lib.ListN.{get_elem?}
use Rattle.atomic_table.specs.Table.{State}
use Rattle.cm_turn.specs.Lists.{Each, one_if, sum_of, IsFront, IsRising, StandIn, count_at}
use Rattle.cm_turn.specs.Views.{spent_view}
use Rattle.cm_turn.specs.declared.rule.View.{View}

-- the word with so many entries, odd where the slot is out
abbrev pub word_of : ℕ → Bool → ℕ
word_of n out = 2 * n + one_if out

-- 1 where a list is there
abbrev pub one_if_some : {X : Type 0} → Option X → ℕ
one_if_some None = 0
one_if_some (Some x) = 1

module _ {S E : Type 0} where
  -- what a seat that is not spent knows of the Start and the list
  pub record Knows (first : S) (log : List E) (v : View S E) : Type 0 where
    pub some : 0 < v.parts
    pub start : v.start ≡ Some first
    pub seen : IsFront v.seen log
    pub old : Each (λ l. IsFront l v.seen) v.old
    pub own : StandIn v.seen v.own
    pub rising : IsRising 0 v.own
    pub turn : (v.turn ≡ None) ⊎ ((v.turn ≡ Some log) × (v.seen ≡ log))

module _ {T S E : Type 0} (start_of : T → S) (list_of : T → List E) where
  -- the slot is home with a value of this Start and list, or out
  abbrev pub IsPlaced : List (maybe.Option (Option T)) → Bool → S → List E → Type 0
  IsPlaced homes false first log = (y : T) × (homes ≡ some (Some y) ∷ []) × (start_of y ≡ first) × (list_of y ≡ log)
  IsPlaced homes true first log = homes ≡ maybe.none ∷ []

  -- there is one list; the word has its length; the parts are 64; one seat holds the turn where the slot is out; and each place
  -- of the list is that of one own entry of one seat, and no other place is
  pub record KeepsRule (first : S) (s : State (Option T) (View S E)) : Type 0 where
    pub log : List E
    pub out : Bool
    pub word : s.words ≡ word_of (length log) out ∷ []
    pub placed : IsPlaced s.homes out first log
    pub seats : (i : ℕ) (v : View S E) → get_elem? s.views i ≡ some v → (v ≡ spent_view) ⊎ Knows first log v
    pub parts : sum_of (λ (v : View S E). v.parts) s.views ≡ 64
    pub turns : sum_of (λ (v : View S E). one_if_some v.turn) s.views ≡ one_if out
    pub places : (p : ℕ) → sum_of (λ (v : View S E). count_at p v.own) s.views ≡ one_if (ltb p (length log))
