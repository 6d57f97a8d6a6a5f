use Rattle.std.proofs.Common.{◌≡◌, length, Some, refl, sym, ap, ◌∙◌}
use Rattle.std.specs.Prelude.{slice_get}
use Rattle.std.proofs.lemmas.Option.{slice_get_read, slice_get_past}
use Rattle.anti_kind.specs.Stored.{row_of}
use Rattle.anti_queue.proofs.Listing.{next_is, next_none}
use Rattle.anti_queue.proofs.subscribers.Subscribers.first_free.Goals as goal

pub returns-in-Some : goal.returns-in-Some
returns-in-Some c = λ s h kind subs l free.
    let m = c.args.self.now in
    let x = c.in-Some.subscriber.now in
    let found : slice_get c.as_slice.result.now c.args.sub ≡ Some x =
    slice_get_read c.as_slice.result.now (length c.as_slice.result.now) c.args.sub x refl c.in-Some.ensures.lookup.3.0 c.in-Some.ensures.lookup.1 in
    let is : slice_get m.list.items c.args.sub ≡ Some x = ap (λ xs. slice_get xs c.args.sub) (sym c.as_slice.ensures.value) ∙ found in
    next_is s h l m kind subs c.args.sub free x is ∙ ap (row_of h) (sym c.first.ensures)

pub returns-in-None : goal.returns-in-None
returns-in-None c = λ s h kind subs l free.
    let m = c.args.self.now in
    next_none s h l m kind subs c.args.sub
    (ap (λ xs. slice_get xs c.args.sub) (sym c.as_slice.ensures.value) ∙ slice_get_past c.as_slice.result.now c.args.sub c.in-None.ensures.lookup.3)
