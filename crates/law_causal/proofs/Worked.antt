-- Worked traces: the stores `s` and `t`, and the service `v`, whose inbox is object 2, with two processes.
use Rattle.std.proofs.Common.{◌≡◌, ℕ, zero, suc, true, false, List, [], ◌∷◌, Contains, Some, slice_get, take as front_of, refl, sym, ap, ◌∙◌, subst, arith}
use Rattle.std.specs.Prelude.{None, Ok, codes}
use Rattle.anti_ids.specs.Ids.{has_id}
use Rattle.anti_ids.specs.List.{plain}
use Rattle.anti_ids.specs.declared.id.WriteId.{WriteId}
use Rattle.anti_kind.specs.declared.actor.Actor.{Actor}
use Rattle.anti_kind.specs.declared.actor.Actor.TheVariants.{Carrier}
use Rattle.anti_kind.specs.declared.call.Call.TheVariants as calls
use Rattle.anti_kind.specs.declared.call.Reply.{Reply}
use Rattle.anti_kind.specs.declared.call.Reply.TheVariants as replies
use Rattle.anti_kind.specs.declared.entry.Entry.{Entry}
use Rattle.anti_kind.specs.declared.message.Message.{Message}
use Rattle.anti_kind.specs.declared.message.MessageKind.{MessageKind}
use Rattle.anti_kind.specs.declared.message.MessageKind.TheVariants as kinds
use Rattle.anti_kind.specs.declared.row.Row.{Row}
use Rattle.anti_app.specs.declared.app.App.{App}
use Rattle.anti_baggage.specs.Reading.{read_lineage}
use Rattle.law_causal.specs.Words.{answered, asked, beside, brings, posts_in, shown, wrote}
use Rattle.law_causal.specs.Pasts.{kept_with}
use Rattle.law_causal.specs.Causal.{Before, Earlier, id_replaced, lineage, message, over, program, row, through}
use Rattle.law_causal.specs.Carried.{Brought}
use Rattle.law_causal.specs.Settled.{found_in, is_visible_after, region_named}
use Rattle.law_causal.proofs.WorkedForms.{app_with, born_at, made, service_in, store_in}

abbrev app : App
app =
    app_with (codes "eu" ∷ []) (store_in 0 (codes "kv") (codes "s") ∷ store_in 0 (codes "kv") (codes "t") ∷ [])
    (service_in 0 (codes "v") [] ∷ []) [] []

abbrev first : Actor
first = born_at 2 1

abbrev second : Actor
second = born_at 2 3

abbrev key : List ℕ
key = codes "k"

abbrev its_id : ℕ → ℕ → WriteId
its_id store version = record { store = store; key = key; version = version }

abbrev row_of : ℕ → List WriteId → Row
row_of version ids = record { key = key; version = version; value = codes "a"; lineage = ids }

abbrev message_of : MessageKind → ℕ → List ℕ → Message
message_of kind to baggage = record { kind = kind; to = to; depth = 0; handler = codes "h"; value = []; baggage = plain baggage }

-- ---- a process writes and sends a message, and the process of the message reads what was written

abbrev write : Entry
write = made 2 0 1 first 1 (calls.Write key (codes "a") []) (replies.Written key 1 None)

abbrev send : Entry
send = made 3 2 2 first 1 (calls.Post (message_of kinds.Send 0 (codes "1;s/k@1"))) (replies.Posted 2)

abbrev take : Entry
take = made 4 2 3 second 1 (calls.Take 1) (replies.Got 2 (message_of kinds.Send 0 (codes "1;s/k@1")))

abbrev read : Entry
read = made 5 0 3 second 1 (calls.Read 0 key) (replies.Shown (plain (row_of 1 [] ∷ [])))

abbrev passed_on : List Entry
passed_on = write ∷ send ∷ take ∷ read ∷ []

wrote_it : wrote write ≡ its_id 0 1 ∷ []
wrote_it = refl

sends_write_none : wrote send ≡ []
sends_write_none = refl

reads_write_none : wrote read ≡ []
reads_write_none = refl

shown_it : shown read ≡ its_id 0 1 ∷ []
shown_it = refl

write_before_send : Before passed_on 0 1
write_before_send = program write send refl refl (record { before = omega arith; process = refl; actor = refl; span = refl })

send_before_take : Before passed_on 1 2
send_before_take =
    message send take refl refl (record { inbox = refl; letter = asked 2; posted = (0, omega arith, refl); taken = (0, omega arith, refl) })

write_before_take : Before passed_on 0 2
write_before_take = through write_before_send send_before_take

write_before_read : Before passed_on 0 3
write_before_read = row write read (its_id 0 1) refl refl refl refl

-- the id of the write came to the span of the send
came_to_send : Brought app passed_on 1 send (its_id 0 1)
came_to_send = record {
  place = 0;
  entry = write;
  there = refl;
  earlier = record { before = omega arith; process = refl; actor = refl; span = refl };
  came = refl;
}

-- ---- a call and its reply

abbrev answer : Entry
answer = made 6 2 4 second 1 (calls.Post (message_of kinds.Reply 2 (codes "1;"))) replies.Done

abbrev hear : Entry
hear = made 7 2 5 first 1 (calls.TakeReply 2) (replies.Got 2 (message_of kinds.Reply 2 (codes "1;")))

answer_before_hear : Before (answer ∷ hear ∷ []) 0 1
answer_before_hear =
    message answer hear refl refl (record { inbox = refl; letter = answered 2; posted = (0, omega arith, refl); taken = (0, omega arith, refl) })

-- ---- a row that was stored with a lineage

abbrev older : Entry
older = made 2 1 1 first 1 (calls.Write key (codes "a") []) (replies.Written key 1 None)

abbrev newer : Entry
newer = made 3 0 1 second 1 (calls.Write key (codes "a") (its_id 1 1 ∷ [])) (replies.Written key 1 None)

abbrev read_newer : Entry
read_newer = made 4 0 2 first 2 (calls.Scan 0 key) (replies.Shown (plain (row_of 1 (its_id 1 1 ∷ []) ∷ row_of 0 [] ∷ [])))

kept_beside : kept_with newer ≡ its_id 1 1 ∷ []
kept_beside = refl

-- a row of version 0 has no id
only_newer : shown read_newer ≡ its_id 0 1 ∷ []
only_newer = refl

older_beside : beside read_newer ≡ its_id 1 1 ∷ []
older_beside = refl

both_come : brings app read_newer ≡ its_id 0 1 ∷ its_id 1 1 ∷ []
both_come = refl

older_before_read : Before (older ∷ newer ∷ read_newer ∷ []) 0 2
older_before_read = lineage older read_newer (its_id 1 1) refl refl refl refl

-- ---- what comes with an entry

-- a write brings its own id, and what is kept beside it where that is more than it handed in
brings_itself : brings app newer ≡ its_id 0 1 ∷ []
brings_itself = refl

pulled : brings app (made 4 0 3 second 1 (calls.Pull 0) (replies.Pulled (row_of 1 (its_id 1 1 ∷ [])))) ≡ its_id 0 1 ∷ its_id 1 1 ∷ []
pulled = refl

pulled_again : brings app (made 4 0 3 second 1 (calls.Repull 0 1) (replies.Pulled (row_of 1 (its_id 1 1 ∷ [])))) ≡ its_id 0 1 ∷ its_id 1 1 ∷ []
pulled_again = refl

-- a message brings the ids that its text states
with_message : (baggage : List ℕ) → read_lineage (codes "s" ∷ codes "t" ∷ []) baggage ≡ Ok (its_id 0 1 ∷ [])
    → brings app (made 4 2 3 second 1 (calls.Take 1) (replies.Got 2 (message_of kinds.Send 0 baggage))) ≡ its_id 0 1 ∷ []
with_message baggage states = rw states refl

with_reply : brings app hear ≡ []
with_reply = refl

sends_bring_none : brings app send ≡ []
sends_bring_none = refl

-- looks bring nothing, and one that names nothing as missing found all its ids
abbrev look : Reply → Entry
look reply = made 4 0 3 second 1 (calls.Look 0 (its_id 0 1 ∷ []) true) reply

looks_bring_none : brings app (look (replies.Missing [] [])) ≡ []
looks_bring_none = refl

found_all : found_in (look (replies.Missing [] [])).call (look (replies.Missing [] [])).reply ≡ its_id 0 1 ∷ []
found_all = refl

found_none : found_in (look (replies.Missing (its_id 0 1 ∷ []) [])).call (look (replies.Missing (its_id 0 1 ∷ []) [])).reply ≡ []
found_none = refl

-- a look names its region
look_region : region_named (look (replies.Missing [] [])).call ≡ 0
look_region = refl

-- ---- what is visible after a trace

abbrev ship : Entry
ship = made 3 0 2 (Carrier 0) 0 (calls.Ship 0 1 1) replies.Done

shipped_is_visible : is_visible_after app (write ∷ ship ∷ []) 0 (its_id 0 1) ≡ true
shipped_is_visible = refl

written_is_not : is_visible_after app (write ∷ []) 0 (its_id 0 1) ≡ false
written_is_not = refl

other_store_is_not : is_visible_after app (write ∷ ship ∷ []) 0 (its_id 1 1) ≡ false
other_store_is_not = refl

-- nothing is visible at an inbox, or where there is no object
inbox_is_not : is_visible_after app (write ∷ ship ∷ []) 0 (its_id 2 0) ≡ false
inbox_is_not = refl

none_is_not : is_visible_after app (write ∷ ship ∷ []) 0 (its_id 3 0) ≡ false
none_is_not = refl

-- ---- a write that replaces another is after it, by whatever process

-- it keeps the id of the other
abbrev overwrite : Entry
overwrite = made 3 0 2 second 1 (calls.Write key (codes "b") []) (replies.Written key 2 (Some (its_id 0 1 ∷ [])))

brings_over : brings app overwrite ≡ its_id 0 2 ∷ its_id 0 1 ∷ []
brings_over = refl

replaces_it : id_replaced (front_of 1 (write ∷ overwrite ∷ [])) overwrite ≡ its_id 0 1 ∷ []
replaces_it = refl

replaces_none : id_replaced (front_of 0 (write ∷ overwrite ∷ [])) write ≡ []
replaces_none = refl

write_before_overwrite : Before (write ∷ overwrite ∷ []) 0 1
write_before_overwrite = over write overwrite (its_id 0 1) refl refl refl refl

-- ---- a new span is not after the span before it

abbrev write_in : ℕ → List ℕ → Entry
write_in span name = made span 0 span first span (calls.Write name (codes "a") []) (replies.Written name span None)

abbrev one : Entry
one = write_in 1 (codes "k")

abbrev other : Entry
other = write_in 2 (codes "l")

abbrev two_spans : List Entry
two_spans = one ∷ other ∷ []

either : (P : ℕ → Entry → Type 0) → P 0 one → P 1 other → (i : ℕ) (a : Entry) → slice_get two_spans i ≡ Some a → P i a
either P p q zero a at = let is : one ≡ a = cc in subst (P 0) is p
either P p q (suc zero) a at = let is : other ≡ a = cc in subst (P 1) is q
either P p q (suc (suc i)) a at = absurd (cc)

not_earlier : (i j : ℕ) (a b : Entry) → slice_get two_spans i ≡ Some a → slice_get two_spans j ≡ Some b → Earlier i a j b → ⊥
not_earlier zero zero a b at_i at_j e = omega (arith, e.before)
not_earlier zero (suc zero) a b at_i at_j e =
    let of_first : one ≡ a = cc in
    let of_second : other ≡ b = cc in
    let same : one.span ≡ other.span = ap (λ (x : Entry). x.span) of_first ∙ e.span ∙ ap (λ (x : Entry). x.span) (sym of_second) in
    omega (arith, same)
not_earlier (suc i) zero a b at_i at_j e = omega (arith, e.before)
not_earlier (suc i) (suc zero) a b at_i at_j e = omega (arith, e.before)
not_earlier i (suc (suc j)) a b at_i at_j e = absurd (cc)

none_before : {i j : ℕ} → Before two_spans i j → ⊥
none_before (program {i = i} {j = j} a b at_i at_j e) = not_earlier i j a b at_i at_j e
none_before (message {i = i} a b at_i at_j d) =
    either (λ (k : ℕ) (e : Entry). Contains (posts_in e.call e.reply) d.letter → ⊥) (λ at. omega (arith, at.1)) (λ at. omega (arith, at.1))
    i a at_i d.posted
none_before (row {j = j} a b w at_i at_j has shows) =
    either (λ (k : ℕ) (e : Entry). has_id w (shown e) ≡ true → ⊥) (λ never. absurd (cc)) (λ never. absurd (cc)) j b at_j shows
none_before (lineage {j = j} a b w at_i at_j has shows) =
    either (λ (k : ℕ) (e : Entry). has_id w (beside e) ≡ true → ⊥) (λ never. absurd (cc)) (λ never. absurd (cc)) j b at_j shows
none_before (over {j = j} a b w at_i at_j has replaced) =
    either (λ (k : ℕ) (e : Entry). has_id w (id_replaced (front_of k two_spans) e) ≡ true → ⊥) (λ never. absurd (cc)) (λ never. absurd (cc))
    j b at_j replaced
none_before (through p q) = none_before p
