use Rattle.std.proofs.Common.{◌≡◌, ℕ, List, [], ◌∷◌, ◌++◌, false, length, ◌==◌, codes, sym, ap, ◌∙◌}
use Rattle.std.specs.List.{flat_map}
use Rattle.anti_ids.specs.declared.id.WriteId.{WriteId}
use Rattle.anti_baggage.specs.Texts.{id_text, lineage_text_one}
use Rattle.anti_text.specs.inner.Runs.{kept_text}
use Rattle.anti_text.proofs.Commas.{written_behind}
use Rattle.anti_text.proofs.id_texts.IdTexts.lineage.Goals as goal

-- the last byte is the comma behind the last id
closed : (stores : List (List ℕ)) (out : List ℕ) (ids : List WriteId) → (length ids == 0) ≡ false
    → (out ++ codes "1;") ++ flat_map (kept_text stores) ids ≡ (out ++ lineage_text_one stores ids) ++ codes ","
closed stores out [] some = absurd (cc)
closed stores out (id ∷ ids) some = written_behind (id_text stores) (codes ",") out (codes "1;") id ids

pub returns : goal.returns
returns c =
    let stores = c.args.self.now.stores.items in
    let ids = c.args.lineage.now in
    let some : (length ids == 0) ≡ false = sym c.is_empty.ensures ∙ c.if-is_empty.false in
    let written : c.ids.new.out ≡ (c.args.out.now ++ codes "1;") ++ flat_map (kept_text stores) ids =
    c.in_ok-ids.ensures ∙ ap (λ (t : List ℕ). t ++ flat_map (kept_text stores) ids) c.in_ok-put.ensures in
    c.take_last.ensures (c.args.out.now ++ lineage_text_one stores ids) 44 (written ∙ closed stores c.args.out.now ids some)
