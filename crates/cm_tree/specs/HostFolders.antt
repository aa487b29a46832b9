-- A folder of the host.
use Rattle.std.specs.Prelude.{ℕ, List, map, None, string_bytes}
use Rattle.std.specs.Prelude.{String}
use Rattle.std.specs.declared.alloc.Global.{Global}
use Rattle.cm_tree.specs.Folders.{Shown}

-- the bytes of paths
abbrev pub texts_of : List (String Global) → List (List ℕ)
texts_of paths = map (λ path. string_bytes path) paths

-- it shows the paths that it found, and no bytes
abbrev pub host_shown : List (String Global) → Shown
host_shown paths = record {
  paths = texts_of paths;
  now = λ n. None;
  later = λ n. None;
}
