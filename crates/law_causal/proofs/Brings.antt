-- What comes with an entry, in its parts.
use Rattle.std.proofs.Common.{◌≡◌, ℕ, ◌⊎◌, true, false, List, [], ◌++◌, Contains, flat_map, None, Some, unwrap_or, append-nil, refl, sym, ap, ◌∙◌, inl, inr, arith}
use Rattle.anti_ids.specs.Ids.{has_id}
use Rattle.anti_ids.specs.declared.id.WriteId.{WriteId}
use Rattle.anti_kind.specs.declared.call.Call.{Call}
use Rattle.anti_kind.specs.declared.call.Call.TheVariants as calls
use Rattle.anti_kind.specs.declared.call.Reply.{Reply}
use Rattle.anti_kind.specs.declared.call.Reply.TheVariants as replies
use Rattle.anti_kind.specs.declared.entry.Entry.{Entry}
use Rattle.anti_kind.specs.declared.row.Row.{Row}
use Rattle.anti_app.specs.declared.app.App.{App}
use Rattle.anti_proc.specs.Local.{id_at, row_ids, rows_ids}
use Rattle.anti_kind.specs.Stored.{stored}
use Rattle.law_causal.specs.Words.{Letter, beside, brings, comes_with, hands_all, id_written, posts_in, reads, rows_in, shown, wrote}
use Rattle.law_causal.specs.Pasts.{kept_with}
use Rattle.law_causal.specs.inner.Taken.{taken, taken_in, told, told_in}
use Rattle.law_causal.proofs.Ids.{has_joined, in_either, joined_has}

-- ---- the parts

-- The id of what the entry wrote, or one that is told to be kept beside that; the id of a row in its reply, or of the lineage beside such a row; or
-- one of the lineage of its message.
pub data Part (app : App) (e : Entry) (w : WriteId) : Type 0 where
  of_write : has_id w (wrote e) ≡ true → Part app e w
  of_kept : has_id w (told e) ≡ true → Part app e w
  of_row : (r : Row) → Contains (rows_in e.call e.reply) r → has_id w (id_at e.object r.key r.version) ≡ true → Part app e w
  of_lineage : (r : Row) → Contains (rows_in e.call e.reply) r → has_id w r.lineage ≡ true → Part app e w
  of_message : has_id w (taken app e) ≡ true → Part app e w

-- one list, of which the others are empty
alone : (ids : List WriteId) → ids ≡ ids ++ []
alone ids = sym (append-nil ids)

all_of : (app : App) (o : ℕ) (c : Call) (r : Reply)
    → comes_with app o c r ≡ id_written o c r ++ (told_in c r ++ (flat_map (row_ids o) (rows_in c r) ++ taken_in app c r))
all_of app o (calls.Write key value lineage) (replies.Written name version over) = ap (λ ids. id_at o name version ++ ids) (alone (unwrap_or over []))
all_of app o (calls.Read region key) (replies.Shown rows) = alone (rows_ids o rows.items)
all_of app o (calls.Scan region prefix) (replies.Shown rows) = alone (rows_ids o rows.items)
all_of app o (calls.Poll region key) (replies.Shown rows) = alone (rows_ids o rows.items)
all_of app o (calls.Pull sub) (replies.Pulled row) = alone (row_ids o row) ∙ alone (row_ids o row ++ [])
all_of app o (calls.Repull sub version) (replies.Pulled row) = alone (row_ids o row) ∙ alone (row_ids o row ++ [])
all_of app o (calls.Take nth) (replies.Got number m) = refl
all_of app o (calls.TakeReply number) (replies.Got got m) = refl
all_of app o c r = refl

-- What comes with an entry is in one of its parts, and the other way round.
module _ (app : App) (e : Entry) (w : WriteId) where
  abbrev its_rows : List Row
  its_rows = rows_in e.call e.reply

  abbrev ids_of_rows : List WriteId
  ids_of_rows = flat_map (row_ids e.object) its_rows

  all_come : has_id w (brings app e) ≡ has_id w (wrote e ++ (told e ++ (ids_of_rows ++ taken app e)))
  all_come = ap (has_id w) (all_of app e.object e.call e.reply)

  of_rows : has_id w ids_of_rows ≡ true → Part app e w
  of_rows has =
      let (r, at, its) = has_joined (row_ids e.object) w its_rows has in
      elim ((in_either w (id_at e.object r.key r.version) r.lineage).0 its) [ inl own ↦ of_row r at own | inr further ↦ of_lineage r at further ]

  of_others : has_id w (ids_of_rows ++ taken app e) ≡ true → Part app e w
  of_others has = elim ((in_either w ids_of_rows (taken app e)).0 has) [ inl row ↦ of_rows row | inr message ↦ of_message message ]

  beside_own : has_id w (told e ++ (ids_of_rows ++ taken app e)) ≡ true → Part app e w
  beside_own has =
      elim ((in_either w (told e) (ids_of_rows ++ taken app e)).0 has) [ inl kept ↦ of_kept kept | inr other ↦ of_others other ]

  pub part_of : has_id w (brings app e) ≡ true → Part app e w
  part_of has =
      elim ((in_either w (wrote e) (told e ++ (ids_of_rows ++ taken app e))).0 (sym all_come ∙ has)) [
        | inl own ↦ of_write own
        | inr other ↦ beside_own other
      ]

  beside_comes : (has_id w (told e) ≡ true) ⊎ (has_id w (ids_of_rows ++ taken app e) ≡ true) → has_id w (brings app e) ≡ true
  beside_comes either =
      all_come
      ∙ (in_either w (wrote e) (told e ++ (ids_of_rows ++ taken app e))).1
      (inr ((in_either w (told e) (ids_of_rows ++ taken app e)).1 either))

  others_come : (has_id w ids_of_rows ≡ true) ⊎ (has_id w (taken app e) ≡ true) → has_id w (brings app e) ≡ true
  others_come either = beside_comes (inr ((in_either w ids_of_rows (taken app e)).1 either))

  row_comes : (r : Row) → Contains its_rows r → (has_id w (id_at e.object r.key r.version) ≡ true) ⊎ (has_id w r.lineage ≡ true) → has_id w (brings app e) ≡ true
  row_comes r at either =
      others_come (inl (joined_has (row_ids e.object) w its_rows r at ((in_either w (id_at e.object r.key r.version) r.lineage).1 either)))

  pub part_comes : Part app e w → has_id w (brings app e) ≡ true
  part_comes (of_write own) = all_come ∙ (in_either w (wrote e) (told e ++ (ids_of_rows ++ taken app e))).1 (inl own)
  part_comes (of_kept kept) = beside_comes (inl kept)
  part_comes (of_row r at own) = row_comes r at (inl own)
  part_comes (of_lineage r at further) = row_comes r at (inr further)
  part_comes (of_message its) = others_come (inr its)

  -- what is shown is of a row, and what is beside is of a row's lineage
  pub row_shown : has_id w (shown e) ≡ true → (r : Row) × Contains (rows_in e.call e.reply) r × (has_id w (brings app e) ≡ true)
  row_shown has =
      let (r, at, its) = has_joined (λ (r : Row). id_at e.object r.key r.version) w its_rows has in
      (r, at, row_comes r at (inl its))

  pub row_beside : has_id w (beside e) ≡ true → (r : Row) × Contains (rows_in e.call e.reply) r × (has_id w (brings app e) ≡ true)
  row_beside has =
      let (r, at, its) = has_joined (λ (r : Row). r.lineage) w its_rows has in
      (r, at, row_comes r at (inr its))

-- the id of a row is shown, and the ids of its lineage come beside it
pub shows_row : (e : Entry) (w : WriteId) (r : Row) → Contains (rows_in e.call e.reply) r → has_id w (id_at e.object r.key r.version) ≡ true → has_id w (shown e) ≡ true
shows_row e w r at has = joined_has (λ (r : Row). id_at e.object r.key r.version) w (rows_in e.call e.reply) r at has

pub beside_row : (e : Entry) (w : WriteId) (r : Row) → Contains (rows_in e.call e.reply) r → has_id w r.lineage ≡ true → has_id w (beside e) ≡ true
beside_row e w r at has = joined_has (λ (r : Row). r.lineage) w (rows_in e.call e.reply) r at has

-- ---- what writes, reads and posts do not do

-- A write reads, shows and takes nothing, and brings its own id and what it tells that is kept beside it.
pub record OfWrite (app : App) (o : ℕ) (c : Call) (r : Reply) : Type 0 where
  pub hands : hands_all c ≡ true
  pub no_read : reads c ≡ false
  pub no_rows : rows_in c r ≡ []
  pub own : comes_with app o c r ≡ id_written o c r ++ told_in c r

of_call : (app : App) (o : ℕ) (c : Call) (r : Reply) (w : WriteId) → has_id w (id_written o c r) ≡ true → OfWrite app o c r
of_call app o (calls.Write key value lineage) (replies.Written name version over) w has =
    record { hands = refl; no_read = refl; no_rows = refl; own = refl }
of_call app o c r w has = absurd (cc)

pub writes_only : (app : App) (e : Entry) (w : WriteId) → has_id w (wrote e) ≡ true → OfWrite app e.object e.call e.reply
writes_only app e w has = of_call app e.object e.call e.reply w has

-- what it tells is kept
told_kept_in : (c : Call) (r : Reply) (w : WriteId) → has_id w (told_in c r) ≡ true → has_id w (stored c r) ≡ true
told_kept_in (calls.Write key value lineage) (replies.Written name version None) w has = absurd (cc)
told_kept_in (calls.Write key value lineage) (replies.Written name version (Some kept)) w has = has
told_kept_in c r w has = absurd (cc)

pub told_kept : (e : Entry) (w : WriteId) → has_id w (told e) ≡ true → has_id w (kept_with e) ≡ true
told_kept e w has = told_kept_in e.call e.reply w has

-- what is read is handed on
pub reads_hand : (c : Call) → reads c ≡ true → hands_all c ≡ true
reads_hand (calls.Read region key) is = refl
reads_hand (calls.Scan region prefix) is = refl
reads_hand (calls.Poll region key) is = refl
reads_hand c is = absurd (cc)

-- a post brings nothing
post_alone : (app : App) (o : ℕ) (c : Call) (r : Reply) (t : Letter) → Contains (posts_in c r) t → comes_with app o c r ≡ []
post_alone app o (calls.Post m) r t at = refl
post_alone app o c r t at = absurd (omega (arith, at.1))

pub posts_bring_none : (app : App) (e : Entry) (t : Letter) → Contains (posts_in e.call e.reply) t → brings app e ≡ []
posts_bring_none app e t at = post_alone app e.object e.call e.reply t at
