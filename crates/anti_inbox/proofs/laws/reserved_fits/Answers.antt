use Rattle.anti_inbox.proofs.Once.{reserved_fits}
use Rattle.anti_inbox.proofs.laws.reserved_fits.Goals as goal

pub returns : goal.returns
returns c = reserved_fits
