-- Words that state a line are its spelling.
use Rattle.std.proofs.Common.{◌≡◌, ℕ, List, [], ◌∷◌, Bool, true, false, cond, ◌&&◌, Option, Some, None, option_map, refl, sym, subst}
use Rattle.std.specs.Prelude.{codes, decimal}
use Rattle.std.specs.List.{list_all}
use Rattle.std.specs.Map.{lookup}
use Rattle.std.specs.Str.{bytes_eq}
use Rattle.std.proofs.lemmas.Bool.{and_parts}
use Rattle.std.proofs.lemmas.Option.{none-some, same_Some}
use Rattle.anti_ids.specs.Names.{is_name, is_plain}
use Rattle.anti_ids.specs.Decimals.{decimal_in}
use Rattle.anti_ids.specs.declared.limits.TheConstants.{MOST_TURNS}
use Rattle.anti_lang.specs.Texts.{plain_name, is_variable, variable_of}
use Rattle.anti_lang.specs.Vocabulary.{key_of, value_of}
use Rattle.anti_lang.specs.Program.{Step, Write, Append, Remove, Transfer, Barrier, DryRun, Read, Scan, Poll, Call, Send, Reply, Nack, Root, Stop}
use Rattle.anti_lang.specs.Lines.{Line, Does, OpenRepeat, OpenIf, are_as, written, write_form, rows_form, call_form, send_form, if_form, one_word, forms, lone_lines, read_line}
use Rattle.anti_lang.specs.Printing.{key_text, value_text, spelling, held_words}
use Rattle.anti_lang.proofs.SpacedLemmas.{is_word, plain_word, name_word}
use Rattle.anti_lang.proofs.WordLemmas.{IsOf, found, found_if, found_by, found_then, same, plain_read, variable_word, variable_read, key_read, value_read, count_read}
use Rattle.anti_lang.proofs.BodyLemmas.{IsLeaf}

-- Words that state a line are its spelling, each has a byte and no space, and it is no statement with a block.
pub record IsStated (texts : List (List ℕ)) (line : Line) : Type 0 where
  pub spelled : texts ≡ spelling line
  pub are_words : list_all is_word texts ≡ true
  pub leaf : IsLeaf line

-- a form states its lines so, behind this first word
abbrev States : List ℕ → (List (List ℕ) → Option Line) → Type 0
States first form = (rest : List (List ℕ)) (line : Line) → form rest ≡ Some line → IsStated (first ∷ rest) line

-- a line that is another
stated_as : (texts : List (List ℕ)) (line other : Line) → line ≡ other → IsStated texts line → IsStated texts other
stated_as texts line other same stated = subst (λ (l : Line). IsStated texts l) same stated

as_found : (joint variable : List ℕ) → are_as joint variable ≡ true → (joint ≡ codes "as") × (is_word variable ≡ true)
as_found joint variable h =
    let parts = and_parts (bytes_eq joint (codes "as")) (is_variable variable) h in
    (same joint (codes "as") parts.0, variable_word variable parts.1)

written_stated : (store key value : List ℕ) (variable : Option (List ℕ)) (untracked : Bool) (rest : List (List ℕ)) (line : Line)
    → rest ≡ held_words variable untracked → list_all is_word rest ≡ true → written store key value variable untracked ≡ Some line
    → IsStated (codes "write" ∷ store ∷ key ∷ value ∷ rest) line
written_stated store key value variable untracked rest line said are h =
    let here = found_if (is_plain store) _ line h in
    let with_key = found_then (λ k. option_map (λ v. Does (Write store k v variable untracked)) (value_of value)) (key_of is_plain key) line here.1 in
    let with_value = found_by (λ v. Does (Write store with_key.0 v variable untracked)) (value_of value) line with_key.2 in
    let k = key_read is_plain plain_word key with_key.0 with_key.1 in
    let v = value_read value with_value.0 with_value.1 in
    stated_as _ _ line with_value.2
    (record { spelled = rw (k.0, v.0, said) refl; are_words = rw (plain_word store here.0, k.1, v.1, are) refl; leaf = refl })

write_states : States (codes "write") write_form
write_states (store ∷ key ∷ value ∷ []) line h = written_stated store key value None false [] line refl refl h
write_states (store ∷ key ∷ value ∷ joint ∷ variable ∷ []) line h =
    let here = found_if (are_as joint variable) _ line h in
    let bound = as_found joint variable here.0 in
    written_stated store key value (Some variable) false _ line (rw bound.0 refl) (rw (bound.0, bound.1) refl) here.1
write_states (store ∷ key ∷ value ∷ joint ∷ variable ∷ last ∷ []) line h =
    let here = found_if (are_as joint variable && bytes_eq last (codes "untracked")) _ line h in
    let tests = and_parts (are_as joint variable) (bytes_eq last (codes "untracked")) here.0 in
    let bound = as_found joint variable tests.0 in
    let end = same last (codes "untracked") tests.1 in
    written_stated store key value (Some variable) true _ line (rw (bound.0, end) refl) (rw (bound.0, bound.1, end) refl) here.1
write_states _ line h = absurd (none-some line h)

rows_states : {K : Type 0} (first : List ℕ) (ask : List ℕ → K → List ℕ → Step) (read : List ℕ → Option K) (text : K → List ℕ) → is_word first ≡ true
    → ((store : List ℕ) (k : K) (variable : List ℕ) → (spelling (Does (ask store k variable)) ≡ first ∷ store ∷ text k ∷ codes "as" ∷ variable ∷ []) × IsLeaf (Does (ask store k variable)))
    → ((word : List ℕ) (k : K) → read word ≡ Some k → IsOf (text k) word) → States first (rows_form ask read)
rows_states first ask read text good says reads (store ∷ key ∷ joint ∷ variable ∷ []) line h =
    let here = found_if (is_plain store && are_as joint variable) _ line h in
    let tests = and_parts (is_plain store) (are_as joint variable) here.0 in
    let bound = as_found joint variable tests.1 in
    let with_key = found_by (λ k. Does (ask store k variable)) (read key) line here.1 in
    let k = reads key with_key.0 with_key.1 in
    let said = says store with_key.0 variable in
    stated_as _ _ line with_key.2
    (record { spelled = rw (said.0, k.0, bound.0) refl; are_words = rw (good, plain_word store tests.0, k.1, bound.0, bound.1) refl; leaf = said.1 })
rows_states first ask read text good says reads _ line h = absurd (none-some line h)

call_states : States (codes "call") call_form
call_states (service ∷ handler ∷ value ∷ joint ∷ variable ∷ []) line h =
    let here = found_if (is_plain service && (is_plain handler && are_as joint variable)) _ line h in
    let tests = and_parts (is_plain service) (is_plain handler && are_as joint variable) here.0 in
    let more = and_parts (is_plain handler) (are_as joint variable) tests.1 in
    let bound = as_found joint variable more.1 in
    let with_value = found_by (λ v. Does (Call service handler v variable)) (value_of value) line here.1 in
    let v = value_read value with_value.0 with_value.1 in
    stated_as _ _ line with_value.2
    (record {
      spelled = rw (v.0, bound.0) refl;
      are_words = rw (plain_word service tests.0, plain_word handler more.0, v.1, bound.0, bound.1) refl;
      leaf = refl;
    })
call_states _ line h = absurd (none-some line h)

send_states : States (codes "send") send_form
send_states (service ∷ handler ∷ value ∷ []) line h =
    let here = found_if (is_plain service && is_plain handler) _ line h in
    let tests = and_parts (is_plain service) (is_plain handler) here.0 in
    let with_value = found_by (λ v. Does (Send service handler v)) (value_of value) line here.1 in
    let v = value_read value with_value.0 with_value.1 in
    stated_as _ _ line with_value.2
    (record { spelled = rw v.0 refl; are_words = rw (plain_word service tests.0, plain_word handler tests.1, v.1) refl; leaf = refl })
send_states _ line h = absurd (none-some line h)

if_states : States (codes "if") if_form
if_states (variable ∷ last ∷ []) line h =
    let here = found (is_variable variable && bytes_eq last (codes "absent")) (OpenIf variable) line h in
    let tests = and_parts (is_variable variable) (bytes_eq last (codes "absent")) here.0 in
    let end = same last (codes "absent") tests.1 in
    stated_as _ _ line here.1 (record { spelled = rw end refl; are_words = rw (variable_word variable tests.0, end) refl; leaf = tt })
if_states _ line h = absurd (none-some line h)

one_word_states : {A : Type 0} (first : List ℕ) (make : A → Line) (read : List ℕ → Option A) (text : A → List ℕ) → is_word first ≡ true
    → ((x : A) → (spelling (make x) ≡ first ∷ text x ∷ []) × IsLeaf (make x)) → ((word : List ℕ) (x : A) → read word ≡ Some x → IsOf (text x) word)
    → States first (one_word make read)
one_word_states first make read text good says reads (word ∷ []) line h =
    let here = found_by make (read word) line h in
    let x = reads word here.0 here.1 in
    let said = says here.0 in
    stated_as _ _ line here.2 (record { spelled = rw (said.0, x.0) refl; are_words = rw (good, x.1) refl; leaf = said.1 })
one_word_states first make read text good says reads _ line h = absurd (none-some line h)

-- what holds of each row
abbrev Rows : {A : Type 0} → (List ℕ → A → Type 0) → List (List ℕ × A) → Type 0
Rows P [] = Unit {0}
Rows P (row ∷ rows) = P row.0 row.1 × Rows P rows

row_case : {A : Type 0} (P : List ℕ → A → Type 0) (test : Bool) (first word : List ℕ) (here x : A) (more : Option A)
    → P first here → (test ≡ true → word ≡ first) → (more ≡ Some x → P word x) → cond test (Some here) more ≡ Some x → P word x
row_case P true first word here x more this is others h = subst (λ (y : _). P word y) (same_Some here x h) (subst (λ (w : List ℕ). P w here) (sym (is refl)) this)
row_case P false first word here x more this is others h = others h

-- it holds of the row that a word has
row_found : {A : Type 0} (P : List ℕ → A → Type 0) (rows : List (List ℕ × A)) → Rows P rows → (word : List ℕ) (x : A)
    → lookup (bytes_eq word) rows ≡ Some x → P word x
row_found P [] all word x h = absurd (none-some x h)
row_found P (row ∷ rows) all word x h =
    row_case P (bytes_eq word row.0) row.0 word row.1 x (lookup (bytes_eq word) rows) all.0 (same word row.0) (row_found P rows all.1 word x) h

forms_state : Rows States forms
forms_state = (
  write_states,
  (
    one_word_states (codes "append") (λ x. Does (Append x)) variable_of (λ x. x) refl (λ x. (refl, refl)) variable_read,
    (
      one_word_states (codes "remove") (λ x. Does (Remove x)) variable_of (λ x. x) refl (λ x. (refl, refl)) variable_read,
      (
        one_word_states (codes "transfer") (λ x. Does (Transfer x)) variable_of (λ x. x) refl (λ x. (refl, refl)) variable_read,
        (
          rows_states (codes "read") Read (key_of is_plain) key_text refl (λ s k x. (refl, refl)) (key_read is_plain plain_word),
          (
            rows_states (codes "scan") Scan plain_name (λ x. x) refl (λ s k x. (refl, refl)) plain_read,
            (
              rows_states (codes "poll") Poll (key_of is_name) key_text refl (λ s k x. (refl, refl)) (key_read is_name name_word),
              (
                call_states,
                (
                  send_states,
                  (
                    one_word_states (codes "reply") (λ v. Does (Reply v)) value_of value_text refl (λ v. (refl, refl)) value_read,
                    (
                      one_word_states (codes "repeat") OpenRepeat (decimal_in 1 MOST_TURNS) decimal refl (λ n. (refl, tt)) count_read,
                      (if_states, tt),
                    ),
                  ),
                ),
              ),
            ),
          ),
        ),
      ),
    ),
  ),
)

-- a line of one word
abbrev StatesAlone : List ℕ → Line → Type 0
StatesAlone word line = IsStated (word ∷ []) line

lone_state : Rows StatesAlone lone_lines
lone_state =
    let statement : (word : List ℕ) (s : Step) → word ∷ [] ≡ spelling (Does s) → list_all is_word (word ∷ []) ≡ true → IsLeaf (Does s) → IsStated (word ∷ []) (Does s) =
    λ word s said are leaf. record { spelled = said; are_words = are; leaf = leaf } in (
      statement (codes "barrier") Barrier refl refl refl,
      (
        statement (codes "dryrun") DryRun refl refl refl,
        (
          statement (codes "nack") Nack refl refl refl,
          (
            statement (codes "root") Root refl refl refl,
            (
              statement (codes "stop") Stop refl refl refl,
              (record { spelled = refl; are_words = refl; leaf = tt }, tt),
            ),
          ),
        ),
      ),
    )

-- Words that state a line do so in this way.
pub read_stated : (texts : List (List ℕ)) (line : Line) → read_line texts ≡ Some line → IsStated texts line
unfolding read_line
read_stated [] line h = absurd (none-some line h)
read_stated (word ∷ []) line h = row_found StatesAlone lone_lines lone_state word line h
read_stated (first ∷ next ∷ rest) line h =
    let here = found_then (λ form. form (next ∷ rest)) (lookup (bytes_eq first) forms) line h in
    row_found States forms forms_state first here.0 here.1 (next ∷ rest) line here.2
