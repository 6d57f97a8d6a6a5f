-- What may be wrong with the blocks and the variables of lines.
use Rattle.std.specs.Prelude.{ℕ, ◌+◌, ◌*◌, List, [], ◌∷◌, Bool, true, false, not, ◌&&◌, ◌||◌, nat_lt, nat_le, length, get_or, drop, find, Option, Some, None, option_map, is_some, if◌then◌else◌}
use Rattle.std.specs.List.{cons_option}
use Rattle.std.specs.Option.{option_map_or}
use Rattle.std.specs.Str.{bytes_eq}
use Rattle.anti_ids.specs.declared.limits.TheConstants.{MOST_NESTED, MOST_RUNS}
use Rattle.anti_lang.specs.declared.statement.KeyWord.{KeyWord}
use Rattle.anti_lang.specs.declared.statement.KeyWord.TheVariants as key_words
use Rattle.anti_lang.specs.declared.statement.ValueWord.{ValueWord}
use Rattle.anti_lang.specs.declared.statement.ValueWord.TheVariants as value_words
use Rattle.anti_lang.specs.declared.variable.Holds.{Holds}
use Rattle.anti_lang.specs.declared.variable.Holds.TheVariants as holds
use Rattle.anti_lang.specs.declared.variable.Variable.{Variable}
use Rattle.anti_lang.specs.Program.{Write, Append, Remove, Transfer, Read, Scan, Poll, Call, Send, Reply, Root, Stop}
use Rattle.anti_lang.specs.Lines.{Line, Does, OpenRepeat, OpenIf, Close}

-- The number of the first line that is wrong, going down from a line of this number: the first argument says whether a line is wrong, by
-- what is known above it and by the lines behind it, and the second what is known below a line.
abbrev pub first_wrong : {K : Type 0} → (K → Line → List Line → Bool) → (K → Line → K) → K → ℕ → List Line → Option ℕ
first_wrong wrong below known number [] = None
first_wrong wrong below known number (line ∷ behind) =
    if wrong known line behind then Some number else first_wrong wrong below (below known line) (number + 1) behind

-- ---- blocks: of each open block, the innermost first, is known how often its lines run

-- how often a line runs in open blocks
abbrev pub runs : List ℕ → ℕ
runs blocks = get_or blocks 0 1

-- the open blocks below a line
abbrev pub blocks_below : List ℕ → Line → List ℕ
blocks_below blocks (OpenRepeat count) = count * runs blocks ∷ blocks
blocks_below blocks (OpenIf variable) = runs blocks ∷ blocks
blocks_below blocks Close = drop 1 blocks
blocks_below blocks (Does statement) = blocks

-- whether a line stands in a block
abbrev pub in_block : List ℕ → Bool
in_block blocks = nat_lt 0 (length blocks)

-- whether lines have the `end` of a block that is open in front of them, where these more are open in it
abbrev pub has_end : List Line → List ℕ → Bool
has_end [] inner = false
has_end (Close ∷ lines) [] = true
has_end (line ∷ lines) inner = has_end lines (blocks_below inner line)

-- whether a block may not be opened in open blocks, above the lines behind
abbrev pub cannot_open : List ℕ → List Line → Bool
cannot_open blocks behind = not (has_end behind []) || nat_le MOST_NESTED (length blocks)

-- nothing, or `root` first
abbrev pub begins_with_root : List Line → Bool
begins_with_root [] = true
begins_with_root (Does Root ∷ lines) = true
begins_with_root lines = false

-- whether a line is wrong in open blocks, above the lines behind it
abbrev pub has_wrong_block : List ℕ → Line → List Line → Bool
has_wrong_block blocks (OpenRepeat count) behind = cannot_open blocks behind || nat_lt MOST_RUNS (count * runs blocks)
has_wrong_block blocks (OpenIf variable) behind = cannot_open blocks behind
has_wrong_block blocks Close behind = not (in_block blocks)
has_wrong_block blocks (Does Root) behind = in_block blocks
has_wrong_block blocks (Does Stop) behind = in_block blocks || not (begins_with_root behind)
has_wrong_block blocks (Does statement) behind = false

-- The first line, counted from 1, at which a block is wrong: it opens a block that has no `end`, or a fifth round another four, or
-- is a `repeat` whose lines would run more than `MOST_RUNS` times; it is an `end` without a block; it is `root` or `stop` in a block; or it
-- is `stop` with something other than `root` behind it.
unfoldable pub block_fault : List Line → Option ℕ
block_fault = first_wrong has_wrong_block blocks_below [] 1

-- ---- variables

-- What is known of variables above a line: those that it may use, first, and for each open block those that may be used behind its `end`; and
-- all that are set.
pub record Known : Type 0 where
  pub reach : List (List Variable)
  pub all : List Variable

-- the variables that a line may use
abbrev pub near : List (List Variable) → List Variable
near reach = get_or reach 0 []

-- a variable of this kind
abbrev pub named : Holds → List ℕ → Variable
named kind name = record { name = name; kind = kind }

-- the variable that a line sets
abbrev pub set_by : Line → Option Variable
set_by (Does (Write store key value variable untracked)) = option_map (named holds.Write) variable
set_by (Does (Read store key variable)) = Some (named holds.Rows variable)
set_by (Does (Scan store prefix variable)) = Some (named holds.Rows variable)
set_by (Does (Poll store key variable)) = Some (named holds.Rows variable)
set_by (Does (Call service handler value variable)) = Some (named holds.Reply variable)
set_by line = None

-- the same below a line: in a block that it opens may be used what may be round it; behind an `end` what might be above the block; in a new
-- span nothing
abbrev pub reach_below : List (List Variable) → Line → List (List Variable)
reach_below reach (OpenRepeat count) = near reach ∷ reach
reach_below reach (OpenIf variable) = near reach ∷ reach
reach_below reach Close = drop 1 reach
reach_below reach (Does Root) = [] ∷ drop 1 reach
reach_below reach (Does Stop) = [] ∷ drop 1 reach
reach_below reach line = cons_option (set_by line) (near reach) ∷ drop 1 reach

abbrev pub known_below : Known → Line → Known
known_below known line = record { reach = reach_below known.reach line; all = cons_option (set_by line) known.all }

-- What a variable holds that is one of these.
abbrev pub held_in : List Variable → List ℕ → Option Holds
held_in variables name = option_map (λ v. v.kind) (find (λ v. bytes_eq name v.name) variables)

-- whether a variable holds this
abbrev pub is_kind : Holds → Option Holds → Bool
is_kind holds.Write (Some holds.Write) = true
is_kind holds.Rows (Some holds.Rows) = true
is_kind holds.Reply (Some holds.Reply) = true
is_kind kind held = false

abbrev pub key_is_held : List Variable → KeyWord → Bool
key_is_held variables (key_words.Of variable) = is_some (held_in variables variable)
key_is_held variables key = true

abbrev pub value_is_held : List Variable → ValueWord → Bool
value_is_held variables (value_words.Of variable) = is_some (held_in variables variable)
value_is_held variables value = true

-- whether each variable that a line uses is one of these, and holds what the line needs
abbrev pub are_held : List Variable → Line → Bool
are_held variables (Does (Write store key value variable untracked)) = key_is_held variables key && value_is_held variables value
are_held variables (Does (Append variable)) = is_kind holds.Write (held_in variables variable)
are_held variables (Does (Remove variable)) = is_kind holds.Write (held_in variables variable)
are_held variables (Does (Transfer variable)) = is_kind holds.Rows (held_in variables variable)
are_held variables (Does (Read store key variable)) = key_is_held variables key
are_held variables (Does (Poll store key variable)) = key_is_held variables key
are_held variables (Does (Call service handler value variable)) = value_is_held variables value
are_held variables (Does (Send service handler value)) = value_is_held variables value
are_held variables (Does (Reply value)) = value_is_held variables value
are_held variables (OpenIf variable) = is_kind holds.Rows (held_in variables variable)
are_held variables line = true

-- whether a line sets a variable that is set above it, or uses one that it may not use
abbrev pub has_wrong_variable : Known → Line → List Line → Bool
has_wrong_variable known line behind =
    option_map_or (λ v. is_some (held_in known.all v.name)) (set_by line) false || not (are_held (near known.reach) line)

-- The first line, counted from 1, at which a variable is wrong: it sets a variable that a line above sets already; or it uses one that
-- holds something else, or that no line above sets where it can be seen: in the same span, and in the line's block or round that.
unfoldable pub variable_fault : List Line → Option ℕ
variable_fault = first_wrong has_wrong_variable known_below (record { reach = []; all = [] }) 1
