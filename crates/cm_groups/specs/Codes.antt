-- The codes of sites, and the names of their default groups.
use Rattle.std.specs.Prelude.{ℕ, ◌==◌, ◌&&◌, ◌++◌, Bool, List, length, codes}
use Rattle.std.specs.List.{list_all}
use Rattle.cm_base.specs.Names.{is_code_byte}

-- a site code: three characters A to Z or 0 to 9
abbrev pub is_site_code : List ℕ → Bool
is_site_code text = length text == 3 && list_all is_code_byte text

-- the name of the default group of the site with that code
abbrev pub default_name : List ℕ → List ℕ
default_name code = codes "Default-Site-Boundary-Group<" ++ code ++ codes ">"
