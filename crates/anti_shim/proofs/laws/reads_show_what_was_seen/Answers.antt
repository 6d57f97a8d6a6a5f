use Rattle.anti_shim.proofs.SeenStays.{read_behind}
use Rattle.anti_shim.proofs.laws.reads_show_what_was_seen.Goals as goal

pub returns : goal.returns
returns c step who region look sight s key row start keeps seen read =
    read_behind s (c.what_was_found_stays.ensures s keeps) region key step who look sight row start seen read.outcome read.asked read.gives
