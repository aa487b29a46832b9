-- What a seat knows, and how each step changes that.
use Rattle.std.specs.Prelude.{ℕ, ◌+◌, ◌-◌, List, [], ◌∷◌, ◌++◌, length, drop, Option, Some, None}
use Rattle.cm_turn.specs.Lists.{longer_of, placed_from, merge_of}
use Rattle.cm_turn.specs.declared.rule.View.{View}

-- the entries of a list behind one that was taken, with their places
abbrev pub entries_behind : {E : Type 0} → Option (List E) → List E → List (ℕ × E)
entries_behind None list = []
entries_behind (Some taken) list = placed_from (length taken) (drop (length taken) list)

module _ {S E : Type 0} where
  -- of the first seat: all parts, and nothing seen but the Start
  abbrev pub first_view : S → View S E
  first_view first = record { parts = 64; start = Some first; own = []; seen = []; old = []; turn = None }

  -- of a seat that was joined into another
  abbrev pub spent_view : View S E
  spent_view = record { parts = 0; start = None; own = []; seen = []; old = []; turn = None }

  -- one part less
  abbrev pub view_after_split : View S E → View S E
  view_after_split v = record { parts = v.parts - 1; start = v.start; own = v.own; seen = v.seen; old = v.old; turn = v.turn }

  -- of the new seat that a split makes: one part, and as much seen
  abbrev pub newcomer : View S E → View S E
  newcomer v = record { parts = 1; start = v.start; own = []; seen = v.seen; old = []; turn = None }

  -- with all that the other had: what both had seen joins the old lists
  abbrev pub view_after_join : View S E → View S E → View S E
  view_after_join v w = record { parts = v.parts + w.parts; start = v.start; own = merge_of v.own w.own; seen = longer_of v.seen w.seen; old = v.seen ∷ w.seen ∷ v.old ++ w.old; turn = None }

  -- with the turn and this list
  abbrev pub view_at_turn : View S E → List E → View S E
  view_at_turn v list = record { parts = v.parts; start = v.start; own = v.own; seen = list; old = v.old; turn = Some list }

  -- the turn given back with this list, of which what is new is the seat's own
  abbrev pub view_after_turn : View S E → List E → View S E
  view_after_turn v list = record { parts = v.parts; start = v.start; own = v.own ++ entries_behind v.turn list; seen = list; old = v.old; turn = None }
