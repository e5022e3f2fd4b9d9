use Rattle.std.proofs.Common.{◌≡◌, drop}
use Rattle.carried_books.specs.Joining.Sites as sites
use Rattle.carried_books.proofs.joining.sites.earlier_meters.Given as goal

abbrev pub invariant-loop-one : goal.invariant-loop-one
invariant-loop-one l = sites.earlier_meters (drop l.one-index l.earlier) l.register ≡ sites.earlier_meters l.earlier l.register
