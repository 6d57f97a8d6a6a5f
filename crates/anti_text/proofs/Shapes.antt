-- The JSON of an entry, of a wait, of a process, of a span and of a whole record, piece by piece.
use Rattle.std.proofs.Common.{◌≡◌, ℕ, List, [], ◌∷◌, ◌++◌, false, length, codes, map, decimal, refl, sym, ap, ◌∙◌}
use Rattle.std.specs.Fmt.{digits}
use Rattle.std.proofs.lemmas.List.{append_assoc}
use Rattle.serde_json.specs.View.{items_of}
use Rattle.serde_json.specs.Written.{compact_text, items_text}
use Rattle.serde_json.proofs.OnLiterals.{serde_json_on_literals}
use Rattle.anti_kind.specs.declared.entry.Entry.{Entry}
use Rattle.anti_app.specs.declared.app.App.{App}
use Rattle.anti_trace.specs.declared.ends.ProcessEnd.{ProcessEnd}
use Rattle.anti_order.specs.declared.answer.SpanAnswer.{SpanAnswer}
use Rattle.anti_text.specs.Words.{object_name, mark_text, service_name, handler_name}
use Rattle.anti_text.specs.Calls.{call_text, reply_text}
use Rattle.anti_text.specs.Entries.{actor_name, choice_numbered}
use Rattle.anti_text.specs.Processes.{end_text}
use Rattle.anti_report.specs.Report.{Told}
use Rattle.anti_text.specs.Spans.{answer_text, span_name}
use Rattle.anti_text.specs.Json.{text, entry_data, wait_data, process_data, span_data, record_data, json_of}
use Rattle.anti_text.proofs.Added.{added, joined, added_is}

abbrev entry_rest : App → Entry → List (List ℕ)
entry_rest app e =
    compact_text (text (actor_name app e.actor))
    ∷ codes ",\"call\":"
    ∷ compact_text (text (call_text app e.object e.call))
    ∷ codes ",\"object\":"
    ∷ compact_text (text (object_name app e.object))
    ∷ codes ",\"place\":"
    ∷ decimal e.place
    ∷ codes ",\"reply\":"
    ∷ compact_text (text (reply_text app e.reply))
    ∷ codes ",\"span\":"
    ∷ decimal e.span
    ∷ codes ",\"stamp\":"
    ∷ decimal e.stamp
    ∷ codes "}"
    ∷ []

entry_is : (app : App) (e : Entry) → compact_text (entry_data app e) ≡ joined (codes "{\"actor\":") (entry_rest app e)
unfolding entry_data serde_json_on_literals
entry_is app e = refl

pub entry_added : (out : List ℕ) (app : App) (e : Entry) → out ++ compact_text (entry_data app e) ≡ added out (codes "{\"actor\":" ∷ entry_rest app e)
entry_added out app e = ap (λ t. out ++ t) (entry_is app e) ∙ sym (added_is out (codes "{\"actor\":") (entry_rest app e))

abbrev process_rest : App → ProcessEnd → List (List ℕ)
process_rest app p =
    compact_text (text (end_text app p.end))
    ∷ codes ",\"handler\":"
    ∷ compact_text (text (handler_name app p.service p.handler))
    ∷ codes ",\"name\":"
    ∷ compact_text (text (mark_text app p.birth.object p.birth.place))
    ∷ codes ",\"service\":"
    ∷ compact_text (text (service_name app p.service))
    ∷ codes "}"
    ∷ []

process_is : (app : App) (p : ProcessEnd) → compact_text (process_data app p) ≡ joined (codes "{\"end\":") (process_rest app p)
unfolding process_data serde_json_on_literals
process_is app p = refl

pub process_added : (out : List ℕ) (app : App) (p : ProcessEnd) → out ++ compact_text (process_data app p) ≡ added out (codes "{\"end\":" ∷ process_rest app p)
process_added out app p = ap (λ t. out ++ t) (process_is app p) ∙ sym (added_is out (codes "{\"end\":") (process_rest app p))

abbrev span_rest : App → SpanAnswer → List (List ℕ)
span_rest app a =
    compact_text (text (answer_text app a.answer))
    ∷ codes ",\"name\":"
    ∷ compact_text (text (span_name app a.span))
    ∷ codes "}"
    ∷ []

span_is : (app : App) (a : SpanAnswer) → compact_text (span_data app a) ≡ joined (codes "{\"answer\":") (span_rest app a)
unfolding span_data serde_json_on_literals
span_is app a = refl

pub span_added : (out : List ℕ) (app : App) (a : SpanAnswer) → out ++ compact_text (span_data app a) ≡ added out (codes "{\"answer\":" ∷ span_rest app a)
span_added out app a = ap (λ t. out ++ t) (span_is app a) ∙ sym (added_is out (codes "{\"answer\":") (span_rest app a))

abbrev wait_rest : App → ℕ → List (List ℕ)
wait_rest app n =
    compact_text (text (choice_numbered app n))
    ∷ codes ",\"number\":"
    ∷ decimal n
    ∷ codes "}"
    ∷ []

wait_is : (app : App) (n : ℕ) → compact_text (wait_data app n) ≡ joined (codes "{\"choice\":") (wait_rest app n)
unfolding wait_data serde_json_on_literals
wait_is app n = refl

pub wait_added : (out : List ℕ) (app : App) (n : ℕ) → out ++ compact_text (wait_data app n) ≡ added out (codes "{\"choice\":" ∷ wait_rest app n)
wait_added out app n = ap (λ t. out ++ t) (wait_is app n) ∙ sym (added_is out (codes "{\"choice\":") (wait_rest app n))

abbrev record_rest : App → Told → List (List ℕ)
record_rest app t =
    decimal (length t.entries)
    ∷ codes ",\"entries\":["
    ∷ items_text false (items_of (map (entry_data app) t.entries))
    ∷ codes ",\"processes\":["
    ∷ items_text false (items_of (map (process_data app) t.ends))
    ∷ codes ",\"record\":1,\"spans\":["
    ∷ items_text false (items_of (map (span_data app) t.spans))
    ∷ codes ",\"waits\":["
    ∷ items_text false (items_of (map (wait_data app) t.waits))
    ∷ codes "}"
    ∷ []

record_is : (app : App) (t : Told) → compact_text (record_data app t) ≡ joined (codes "{\"end\":") (record_rest app t)
unfolding record_data serde_json_on_literals digits
record_is app t = refl

pub record_added : (out : List ℕ) (app : App) (t : Told) → out ++ json_of app t ≡ added out (codes "{\"end\":" ∷ record_rest app t) ++ codes "\n"
record_added out app t =
    sym (append_assoc out (compact_text (record_data app t)) (codes "\n"))
    ∙ ap (λ x. x ++ codes "\n") (ap (λ x. out ++ x) (record_is app t) ∙ sym (added_is out (codes "{\"end\":") (record_rest app t)))
