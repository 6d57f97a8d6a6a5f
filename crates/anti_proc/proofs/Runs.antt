-- What is left of a process after one entry more.
use Rattle.std.proofs.Common.{◌≡◌, List, [], ◌∷◌, ◌++◌, map, refl, ap, ◌∙◌}
use Rattle.std.proofs.lemmas.List.{map-append}
use Rattle.anti_kind.specs.declared.entry.Entry.{Entry}
use Rattle.anti_kind.specs.declared.call.Reply.{Reply}
use Rattle.anti_app.specs.declared.app.App.{App}
use Rattle.anti_proc.specs.Trees.{Tree, branch, after}
use Rattle.anti_proc.specs.Meaning.{tree_of, reply_of, process_after}

pub after_more : (tree : Tree) (replies : List Reply) (reply : Reply) → after tree (replies ++ reply ∷ []) ≡ branch (after tree replies) reply
after_more tree [] reply = refl
after_more tree (r ∷ rs) reply = after_more (branch tree r) rs reply

-- one entry more is the reply to the next call
pub process_after_more : (app : App) (birth : Entry) (entries : List Entry) (e : Entry)
    → process_after app (birth ∷ (entries ++ e ∷ [])) ≡ branch (process_after app (birth ∷ entries)) e.reply
process_after_more app birth entries e =
    ap (λ (rs : List Reply). after (tree_of app birth) rs) (map-append reply_of entries (e ∷ [])) ∙ after_more (tree_of app birth) (map reply_of entries) e.reply
