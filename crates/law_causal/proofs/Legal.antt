-- A legal trace of a sound application has what the causal order needs.
use Rattle.std.proofs.Common.{◌≡◌, true, List, ap, ◌∙◌, inl, inr}
use Rattle.std.specs.Prelude.{IsTrue}
use Rattle.anti_ids.specs.Ids.{has_id}
use Rattle.anti_ids.specs.declared.id.WriteId.{WriteId}
use Rattle.anti_kind.specs.declared.entry.Entry.{Entry}
use Rattle.anti_app.specs.declared.app.App.{App}
use Rattle.anti_app.specs.Sound.{is_sound}
use Rattle.anti_trace.specs.Legal.{IsLegalTrace}
use Rattle.law_causal.specs.Words.{wrote}
use Rattle.law_causal.specs.Pasts.{FromReplaced, KeptIsOver, kept_with}
use Rattle.law_causal.proofs.Facts.{Facts, Replaces, Writes}
use Rattle.law_causal.proofs.Inboxes as inboxes
use Rattle.law_causal.proofs.Processes as processes
use Rattle.law_causal.proofs.Replacing as replacing
use Rattle.law_causal.proofs.Stores as stores

pub facts : (app : App) (trace : List Entry) → IsTrue (is_sound app) → IsLegalTrace app trace → Facts app trace
facts app trace sound legal = record {
  once = stores.once app trace legal;
  writes = λ j e w at has. replacing.writes app trace legal j e at w has;
  keeper = λ j e w at has. replacing.keeper app trace legal j e at w has;
  replaces = λ i j a b w at_i at_j has among. replacing.replaces app trace legal j b at_j i a w at_i has among;
  came = λ j e at w has. processes.came app trace legal j e at w has;
  rows = stores.row_source app trace legal;
  absent = stores.row_absent app trace legal;
  letters = inboxes.letters app trace legal;
  passes = inboxes.passes app trace legal
      (λ i a m at is. let post = processes.posts_carried app trace legal i a at sound m is in (post.stated, post.process));
}

-- A write keeps what its process carries and what the write that it replaces leaves, and no more. This holds where lineages are lost too.
pub kept_is_over : (app : App) (trace : List Entry) → IsLegalTrace app trace → KeptIsOver app trace
kept_is_over app trace legal j e v at has w =
    let its : Writes app trace j e = replacing.writes app trace legal j e at v has in
    (its.from w, λ either. elim either [ inl carried ↦ its.keeps w carried | inr left ↦ is_kept left ])
  where
    is_kept : FromReplaced trace j e w → has_id w (kept_with e) ≡ true
    is_kept f =
        let r : Replaces f.place f.entry j e = replacing.replaces app trace legal j e at f.place f.entry f.id f.there f.wrote f.replaced in
        elim f.leaves [
          | inl same ↦ r.id w (ap (λ (i : WriteId). has_id i (wrote f.entry)) same ∙ f.wrote)
          | inr kept ↦ r.kept w kept
        ]
