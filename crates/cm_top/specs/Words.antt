-- The line that the words say.
use Rattle.std.specs.Prelude.{ℕ, ◌+◌, ◌-◌, ◌==◌, nat_lt, Bool, false, ◌||◌, if◌then◌else◌, List, [], ◌∷◌, length, map, slice_get, codes}
use Rattle.std.specs.Prelude.{Option, None, Some, Result, Ok, Err, String, string_bytes}
use Rattle.std.specs.Str.{bytes_eq}
use Rattle.cm_base.specs.Names.{name_of, is_package_id, text_if}
use Rattle.cm_top.specs.declared.fault.WordsFault.{WordsFault}
use Rattle.cm_top.specs.declared.fault.WordsFault.TheVariants.{NoCommand, UnknownCommand, BadValue, MissingWord, ExtraWord}
use Rattle.cm_top.specs.declared.line.Line.{Line}
use Rattle.cm_top.specs.declared.line.Line.TheVariants.{Init, Add, Update, Drop, List as ListBay, Validate, WhatIf, Purge, Topology}
use Rattle.cm_top.specs.Numbers.{job_of, version_of}

-- the bytes of each word
abbrev pub texts : {A : Type 0} → List (String A) → List (List ℕ)
texts words = map (λ word. string_bytes word) words

-- a word that begins with `-` and has more bytes
abbrev pub is_option : List ℕ → Bool
is_option [] = false
is_option (byte ∷ []) = false
is_option (byte ∷ next ∷ rest) = byte == 45

-- the word that ends the options
abbrev pub is_end : List ℕ → Bool
is_end word = bytes_eq word (codes "--")

-- an option stands before the end of the options: one too many, for a command that has none
abbrev pub has_option : List (List ℕ) → Bool
has_option [] = false
has_option (word ∷ words) = if is_end word then false else (is_option word || has_option words)

-- the positional values
abbrev pub values_of : List (List ℕ) → List (List ℕ)
values_of [] = []
values_of (word ∷ words) = if is_end word then words else word ∷ values_of words

-- a value of its form, or the fault of the value with that number
abbrev pub formed : {A : Type 0} → Option A → ℕ → Result A WordsFault
formed None number = Err (BadValue number)
formed (Some value) number = Ok value

-- the same where the value may be absent
abbrev pub value_by : {A : Type 0} → (List ℕ → Option A) → ℕ → Option (List ℕ) → Result A WordsFault
value_by form number None = Err (MissingWord number)
value_by form number (Some text) = formed (form text) number

-- the value with that number, from 1, by its form
abbrev pub value_at : {A : Type 0} → (List ℕ → Option A) → ℕ → List (List ℕ) → Result A WordsFault
value_at form number values = value_by form number (slice_get values (number - 1))

-- exactly so many positional values, and no option: else a word is too many, or else the first absent value is missing
abbrev pub counted_values : ℕ → List (List ℕ) → Result (List (List ℕ)) WordsFault
counted_values count words =
    if has_option words || nat_lt count (length (values_of words)) then Err ExtraWord
    else (if nat_lt (length (values_of words)) count then Err (MissingWord (length (values_of words) + 1))
    else Ok (values_of words))

-- the result of a step after this one, or its fault
abbrev pub and_then : {A B : Type 0} → Result A WordsFault → (A → Result B WordsFault) → Result B WordsFault
and_then (Ok value) step = step value
and_then (Err fault) step = Err fault

-- the names that these values are, of which the first has that number
abbrev pub names_from : ℕ → List (List ℕ) → Result (List (List ℕ)) WordsFault
names_from number [] = Ok []
names_from number (value ∷ values) =
    and_then (formed (name_of value) number) (λ name.
    and_then (names_from (number + 1) values) (λ names.
    Ok (name ∷ names)))

-- the words behind `init`: bay names, none or more
abbrev pub read_init : List (List ℕ) → Result Line WordsFault
read_init words =
    if has_option words then Err ExtraWord
    else and_then (names_from 1 (values_of words)) (λ names. Ok (Init names))

-- the form of a package
abbrev pub package_of : List ℕ → Option (List ℕ)
package_of text = text_if (is_package_id text) text

-- the words behind `add`: a package
abbrev pub read_add : List (List ℕ) → Result Line WordsFault
read_add words =
    and_then (counted_values 1 words) (λ values.
    and_then (value_at package_of 1 values) (λ id.
    Ok (Add id)))

-- the words behind `update`: a package
abbrev pub read_update : List (List ℕ) → Result Line WordsFault
read_update words =
    and_then (counted_values 1 words) (λ values.
    and_then (value_at package_of 1 values) (λ id.
    Ok (Update id)))

-- the words behind `list`: a bay
abbrev pub read_list : List (List ℕ) → Result Line WordsFault
read_list words =
    and_then (counted_values 1 words) (λ values.
    and_then (value_at name_of 1 values) (λ bay.
    Ok (ListBay bay)))

-- the words behind `drop`: a bay, and a job
abbrev pub read_drop : List (List ℕ) → Result Line WordsFault
read_drop words =
    and_then (counted_values 2 words) (λ values.
    and_then (value_at name_of 1 values) (λ bay.
    and_then (value_at job_of 2 values) (λ job.
    Ok (Drop bay job))))

-- the words behind `validate`: a bay, a package and a version
abbrev pub read_validate : List (List ℕ) → Result Line WordsFault
read_validate words =
    and_then (counted_values 3 words) (λ values.
    and_then (value_at name_of 1 values) (λ bay.
    and_then (value_at package_of 2 values) (λ id.
    and_then (value_at version_of 3 values) (λ version.
    Ok (Validate bay id version)))))

-- the words behind `what-if`: a bay
abbrev pub read_what_if : List (List ℕ) → Result Line WordsFault
read_what_if words =
    and_then (counted_values 1 words) (λ values.
    and_then (value_at name_of 1 values) (λ bay.
    Ok (WhatIf bay)))

-- the words behind `purge`: a bay
abbrev pub read_purge : List (List ℕ) → Result Line WordsFault
read_purge words =
    and_then (counted_values 1 words) (λ values.
    and_then (value_at name_of 1 values) (λ bay.
    Ok (Purge bay)))

-- the words behind `topology`: none
abbrev pub read_topology : List (List ℕ) → Result Line WordsFault
read_topology words = and_then (counted_values 0 words) (λ values. Ok Topology)

-- the line that the words say, or why they are refused
abbrev pub read_line : List (List ℕ) → Result Line WordsFault
read_line [] = Err NoCommand
read_line (word ∷ words) =
    if bytes_eq word (codes "init") then read_init words
    else (if bytes_eq word (codes "add") then read_add words
    else (if bytes_eq word (codes "update") then read_update words
    else (if bytes_eq word (codes "list") then read_list words
    else (if bytes_eq word (codes "drop") then read_drop words
    else (if bytes_eq word (codes "validate") then read_validate words
    else (if bytes_eq word (codes "what-if") then read_what_if words
    else (if bytes_eq word (codes "purge") then read_purge words
    else (if bytes_eq word (codes "topology") then read_topology words
    else Err UnknownCommand))))))))
