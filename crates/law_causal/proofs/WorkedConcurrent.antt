-- A worked trace: two processes write to one key, so that the later write replaces the other. A third reads the earlier one, learns of the
-- later by a cell of a topic, and reads the key once more.
use Rattle.std.proofs.Common.{◌≡◌, ℕ, false, List, [], ◌∷◌, Some, slice_get, refl, sym, ap, ap₂, ◌∙◌, inl, inr, arith}
use Rattle.std.specs.Prelude.{None, codes}
use Rattle.anti_ids.specs.Ids.{has_id}
use Rattle.anti_ids.specs.declared.id.WriteId.{WriteId}
use Rattle.anti_kind.specs.declared.actor.Actor.TheVariants.{Carrier}
use Rattle.anti_kind.specs.declared.call.Call.{Call}
use Rattle.anti_kind.specs.declared.call.Call.TheVariants as calls
use Rattle.anti_kind.specs.declared.call.Reply.{Reply}
use Rattle.anti_kind.specs.declared.call.Reply.TheVariants as replies
use Rattle.anti_kind.specs.declared.entry.Entry.{Entry}
use Rattle.anti_kind.specs.Store.{absent}
use Rattle.anti_lang.specs.Bodies.{block_from}
use Rattle.anti_lang.specs.Program as statements
use Rattle.anti_lang.specs.Program.{Block}
use Rattle.anti_lang.specs.declared.statement.KeyWord.TheVariants.{Plain}
use Rattle.anti_lang.proofs.PlainLemmas.{block_again}
use Rattle.anti_app.specs.declared.app.App.{App}
use Rattle.anti_app.specs.declared.app.ServiceDef.{ServiceDef}
use Rattle.law_causal.specs.Causal.{Before, lineage, over, program, row, through}
use Rattle.law_causal.specs.Pasts.{InPast}
use Rattle.law_causal.specs.Carried.{carried_at}
use Rattle.law_causal.specs.Reads.{reads_of}
use Rattle.law_causal.specs.Settled.{AskedFor, left_at}
use Rattle.law_causal.proofs.Ids.{id_for, not_none}
use Rattle.law_causal.proofs.Lists.{same_at}
use Rattle.law_causal.proofs.WorkedForms.{app_with, born_at, carried_with, clear, handler_with, left_with, made, read_as, request_for, row_of, service_in, shows, store_in, taken_at, write_to}

-- ---- the application

abbrev pub first_body : Block
first_body =
    block_from (write_to (codes "s") (codes "x") (codes "1") ∷ write_to (codes "s") (codes "k") (codes "u")
    ∷ write_to (codes "t") (codes "n") (codes "note") ∷ [])

abbrev pub second_body : Block
second_body = block_from (write_to (codes "s") (codes "k") (codes "v") ∷ [])

abbrev pub reader_body : Block
reader_body =
    block_from (read_as (codes "s") (codes "k") (codes "p") ∷ statements.Transfer (codes "p") ∷ statements.Barrier
    ∷ read_as (codes "s") (codes "x") (codes "q") ∷ statements.Transfer (codes "q")
    ∷ statements.Poll (codes "t") (Plain (codes "n#1")) (codes "o") ∷ statements.Transfer (codes "o") ∷ statements.Barrier
    ∷ read_as (codes "s") (codes "k") (codes "z") ∷ [])

abbrev pub runs : ℕ → List ℕ → Block → ServiceDef
runs region name body = service_in region name (handler_with (codes "run") body ∷ [])

-- The store `s` and the topic `t` are the objects 0 and 1, and the inboxes of `a`, `b` and `r` the objects 2, 3 and 4.
abbrev pub app : App
app =
    app_with (codes "us" ∷ codes "eu" ∷ []) (store_in 1 (codes "kv") (codes "s") ∷ store_in 1 (codes "topic") (codes "t") ∷ [])
    (runs 0 (codes "a") first_body ∷ runs 0 (codes "b") second_body ∷ runs 1 (codes "r") reader_body ∷ []) []
    (request_for 0 0 [] ∷ request_for 1 0 [] ∷ request_for 2 0 [] ∷ [])

-- ---- the trace

abbrev pub v_id : WriteId
v_id = id_for 0 (codes "k") 1

abbrev pub x_id : WriteId
x_id = id_for 0 (codes "x") 2

abbrev pub u_id : WriteId
u_id = id_for 0 (codes "k") 3

abbrev pub note_id : WriteId
note_id = id_for 1 (codes "n#1") 1

-- the second process
abbrev pub write_v : Entry
write_v = made 2 0 1 (born_at 3 1) 1 (calls.Write (codes "k") (codes "v") []) (replies.Written (codes "k") 1 None)

-- the first process, which carries from its second write on what that keeps
abbrev pub acted : ℕ → ℕ → ℕ → Call → Reply → Entry
acted stamp object place call reply = made stamp object place (born_at 2 1) 1 call reply

abbrev pub write_x : Entry
write_x = acted 3 0 2 (calls.Write (codes "x") (codes "1") []) (replies.Written (codes "x") 2 None)

abbrev pub write_u : Entry
write_u = acted 4 0 3 (calls.Write (codes "k") (codes "u") (x_id ∷ [])) (replies.Written (codes "k") 3 (Some (v_id ∷ x_id ∷ [])))

abbrev pub all_written : List WriteId
all_written = v_id ∷ x_id ∷ u_id ∷ []

abbrev pub write_note : Entry
write_note = acted 5 1 1 (calls.Write (codes "n") (codes "note") all_written) (replies.Written (codes "n#1") 1 None)

abbrev pub ship : ℕ → ℕ → ℕ → ℕ → Entry
ship stamp object place version = made stamp object place (Carrier 0) 0 (calls.Ship 1 version 1) replies.Moved

-- the third process
abbrev pub did : ℕ → ℕ → ℕ → Call → Reply → Entry
did stamp object place call reply = made stamp object place (born_at 4 1) 1 call reply

abbrev pub read : Entry
read = did 6 0 5 (calls.Read 1 (codes "k")) (shows (row_of (codes "k") 1 (codes "v") []))

abbrev pub first_look : Entry
first_look = did 7 0 6 (calls.Look 1 (v_id ∷ []) false) clear

abbrev pub read_x : Entry
read_x = did 8 0 7 (calls.Read 1 (codes "x")) (shows (absent (codes "x")))

abbrev pub poll : Entry
poll = did 9 1 3 (calls.Poll 1 (codes "n#1")) (shows (row_of (codes "n#1") 1 (codes "note") all_written))

abbrev pub look_s : Entry
look_s = did 11 0 10 (calls.Look 1 all_written false) clear

abbrev pub look_t : Entry
look_t = did 12 1 4 (calls.Look 1 (note_id ∷ []) false) clear

abbrev pub read_again : Entry
read_again = did 13 0 11 (calls.Read 1 (codes "k")) (shows (row_of (codes "k") 3 (codes "u") (v_id ∷ x_id ∷ [])))

-- by stamp, and by object where two stamps are equal
abbrev pub trace : List Entry
trace =
    taken_at 1 2 1 (codes "run") [] ∷ taken_at 1 3 1 (codes "run") [] ∷ taken_at 1 4 1 (codes "run") []
    ∷ write_v ∷ write_x ∷ write_u ∷ ship 5 0 4 1 ∷ write_note ∷ read ∷ ship 6 1 2 1 ∷ first_look ∷ read_x ∷ ship 9 0 8 2 ∷ poll
    ∷ ship 10 0 9 3 ∷ look_s ∷ look_t ∷ read_again ∷ []

-- the places of the reads of the third process, all in its first span
its_reads : reads_of trace (record { object = 4; place = 1 }) 1 ≡ 8 ∷ 11 ∷ 13 ∷ 17 ∷ []
its_reads = refl

no_others : reads_of trace (record { object = 4; place = 1 }) 2 ≡ []
no_others = refl

-- ---- what is carried

into_read : carried_at app trace 8 read ≡ []
into_read = ap (carried_with app trace 8 read) (block_again reader_body)

into_note : carried_at app trace 7 write_note ≡ all_written
into_note = ap (carried_with app trace 7 write_note) (block_again first_body)

into_read_again : carried_at app trace 17 read_again ≡ v_id ∷ x_id ∷ u_id ∷ note_id ∷ []
into_read_again = ap (carried_with app trace 17 read_again) (block_again reader_body)

-- The later write to the key is not in the past of the first read. It is in that of the last.
not_in_past : InPast app trace 8 read u_id → ⊥
not_in_past (inl carried) = not_none u_id (carried_at app trace 8 read) into_read carried
not_in_past (inr came) = absurd (cc)

in_past_again : InPast app trace 17 read_again u_id
in_past_again = inl (ap (has_id u_id) into_read_again)

-- ---- the looks of two barriers

-- Each barrier is answered by its last look.
first_is_answered : left_at app trace 10 first_look ≡ Some []
first_is_answered = ap (left_with app trace 10 first_look) (block_again reader_body)

second_goes_on : left_at app trace 15 look_s ≡ Some (record { store = 1; ids = note_id ∷ [] } ∷ [])
second_goes_on = ap (left_with app trace 15 look_s) (block_again reader_body)

second_is_answered : left_at app trace 16 look_t ≡ Some []
second_is_answered = ap (left_with app trace 16 look_t) (block_again reader_body)

-- The second barrier asked for the earlier write to the key by its own look,
asked_again : AskedFor app trace 16 look_t v_id
asked_again = record {
  place = 15;
  look = look_s;
  there = refl;
  ids = all_written;
  call = refl;
  asked = refl;
  store = refl;
  actor = refl;
  span = refl;
  carried = ap (carried_with app trace 15 look_s) (block_again reader_body)
      ∙ sym (ap (carried_with app trace 16 look_t) (block_again reader_body));
  upto = omega arith;
  since = λ i d from before at by none.
      let here : i ≡ 15 = omega (arith, from, before) in
      let same : d ≡ look_s = same_at trace 15 d look_s (ap (slice_get trace) (sym here) ∙ at) refl in
      let goes_on = second_goes_on in
      let is = ap₂ (left_at app trace) here same in
      absurd (cc);
}

-- and the look of the first barrier is none of the second's, though it asked for the same id.
not_by_the_first : (a : AskedFor app trace 16 look_t v_id) → a.place ≡ 10 → ⊥
not_by_the_first a is = a.since 10 first_look (omega (arith, is)) (omega arith) refl refl first_is_answered

-- ---- the causal order

-- the writes that the reads show, of which the later one replaces the other
v_before_read : Before trace 3 8
v_before_read = row write_v read v_id refl refl refl refl

v_before_u : Before trace 3 5
v_before_u = over write_v write_u v_id refl refl refl refl

u_before_read_again : Before trace 5 17
u_before_read_again = row write_u read_again u_id refl refl refl refl

v_before_read_again : Before trace 3 17
v_before_read_again = through v_before_u u_before_read_again

-- the cell was stored with the ids of the writes before it, and the process goes on to the last read
note_before_poll : Before trace 7 13
note_before_poll = row write_note poll note_id refl refl refl refl

u_before_poll : Before trace 5 13
u_before_poll = lineage write_u poll u_id refl refl refl refl

poll_before_read_again : Before trace 13 17
poll_before_read_again = program poll read_again refl refl (record { before = omega arith; process = refl; actor = refl; span = refl })

note_before_read_again : Before trace 7 17
note_before_read_again = through note_before_poll poll_before_read_again
