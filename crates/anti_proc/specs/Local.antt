-- What a process knows between two of its calls.
use Rattle.std.specs.Prelude.{ℕ, ◌==◌, Bool, true, false, ◌+◌, List, [], ◌∷◌, ◌++◌, Option, Some, None, flat_map, nat_lt, slice_get, if◌then◌else◌}
use Rattle.std.specs.Fmt.{decimal}
use Rattle.std.specs.List.{list_all}
use Rattle.std.specs.Option.{option_map_or}
use Rattle.std.specs.Result.{result_ok}
use Rattle.std.specs.Str.{bytes_eq}
use Rattle.anti_ids.specs.Ids.{without_id}
use Rattle.anti_ids.specs.Names.{name_of}
use Rattle.anti_ids.specs.declared.id.WriteId.{WriteId}
use Rattle.anti_kind.specs.declared.row.Row.{Row}
use Rattle.anti_lang.specs.declared.statement.KeyWord.{KeyWord}
use Rattle.anti_lang.specs.declared.statement.KeyWord.TheVariants as keys
use Rattle.anti_lang.specs.declared.statement.ValueWord.{ValueWord}
use Rattle.anti_lang.specs.declared.statement.ValueWord.TheVariants as values
use Rattle.anti_app.specs.declared.app.App.{App}
use Rattle.anti_proc.specs.declared.task.Role.{Role}
use Rattle.anti_proc.specs.declared.variables.Binding.{Binding}
use Rattle.anti_proc.specs.declared.variables.Binding.TheVariants.{Wrote, Saw, Heard}
use Rattle.anti_proc.specs.declared.variables.Variable.{Variable}

-- what does not change in a process: its application, which handler it is, how deep and what it owes, and its input
pub record Setting : Type 0 where
  pub app : App
  pub role : Role
  pub input : List ℕ

-- What changes: the span, counted from 1; whether a `stop` began it and no `root` came since; the lineage that the process carries; its
-- variables, each once; and the value of its reply.
pub record Local : Type 0 where
  pub span : ℕ
  pub stopped : Bool
  pub carried : List WriteId
  pub variables : List Variable
  pub reply : List ℕ

-- a process at its birth carries nothing, and no variable is set
abbrev pub first_local : Local
first_local = record { span = 1; stopped = false; carried = []; variables = []; reply = [] }

-- A new span carries nothing, and no variable is set in it.
abbrev pub new_span : Bool → Local → Local
new_span stopped l = record { span = l.span + 1; stopped = stopped; carried = []; variables = []; reply = l.reply }

-- ---- variables

-- what a variable holds, where it is set
abbrev pub held_in : List Variable → List ℕ → Option Binding
held_in [] name = None
held_in (v ∷ vs) name = if bytes_eq v.name name then Some v.held else held_in vs name

-- the variables, of which one is set to hold something else than it did
abbrev pub with_held : List ℕ → Binding → List Variable → List Variable
with_held name held [] = record { name = name; held = held } ∷ []
with_held name held (v ∷ vs) = if bytes_eq v.name name then record { name = name; held = held } ∷ vs else v ∷ with_held name held vs

abbrev pub set : List ℕ → Binding → Local → Local
set name held l = record l { variables = with_held name held l.variables }

-- ---- the ids of what a variable holds

-- the id of a version of a key; version 0, which no write has, has none
abbrev pub id_at : ℕ → List ℕ → ℕ → List WriteId
id_at store key version = if nat_lt 0 version then record { store = store; key = key; version = version } ∷ [] else []

-- the ids that a row of a store brings: its own, and those of the lineage that is stored beside it
abbrev pub row_ids : ℕ → Row → List WriteId
row_ids store row = id_at store row.key row.version ++ row.lineage

abbrev pub rows_ids : ℕ → List Row → List WriteId
rows_ids store rows = flat_map (row_ids store) rows

-- by what the variable holds, where it is set: a write has its id and those of what is kept beside it, what was read those of its rows, and
-- the value of a reply has none
abbrev pub held_ids : Option Binding → List WriteId
held_ids (Some (Wrote id lineage)) = id_at id.store id.key id.version ++ lineage
held_ids (Some (Saw store rows)) = rows_ids store rows.items
held_ids _ = []

-- some ids without the id of a write; what is kept beside it stays
abbrev pub removed : Option Binding → List WriteId → List WriteId
removed (Some (Wrote id lineage)) ids = without_id id ids
removed _ ids = ids

-- whether no row was read that has a version
abbrev pub is_absent : Option Binding → Bool
is_absent (Some (Saw store rows)) = list_all (λ row. row.version == 0) rows.items
is_absent _ = true

-- ---- texts and keys

-- What `$X` stands for, by what X holds: the version of a write in decimal, the value of the first row that was read, that of a reply. It is
-- empty where there is no such row, and where X is not set.
abbrev pub held_text : Option Binding → List ℕ
held_text (Some (Wrote id lineage)) = decimal id.version
held_text (Some (Saw store rows)) = option_map_or (λ row. row.value) (slice_get rows.items 0) []
held_text (Some (Heard value)) = value
held_text None = []

-- the text of the word of a value, by the input and the variables
abbrev pub text_of : Setting → Local → ValueWord → List ℕ
text_of s l values.Input = s.input
text_of s l (values.Of name) = held_text (held_in l.variables name)
text_of s l (values.Literal value) = value

-- the text of the word of a key
abbrev pub key_text : Setting → Local → KeyWord → List ℕ
key_text s l keys.Input = s.input
key_text s l (keys.Of name) = held_text (held_in l.variables name)
key_text s l (keys.Plain key) = key

-- the name that a text is, where it is one
abbrev pub any_name : List ℕ → Option (List ℕ)
any_name text = result_ok (name_of text)
