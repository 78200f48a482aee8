use Rattle.std.proofs.Common.{◌+◌, ◌*◌, length}
use Rattle.wasi_form.specs.Tokens.{nothing}
use Rattle.wasi_form.proofs.Grammar.{ItemsLeft, FoundLeft}
use Rattle.wasi_form.proofs.tokens.+values.Given as goal

abbrev pub decreases-pass : goal.decreases-pass
decreases-pass l = 3 * l.depth + 2

abbrev pub decreases-pass_after : goal.decreases-pass_after
decreases-pass_after l = 3 * l.depth + 1

abbrev pub decreases-pass_items : goal.decreases-pass_items
decreases-pass_items l = 3 * l.depth + 3

abbrev pub decreases-pass_members : goal.decreases-pass_members
decreases-pass_members l = 3 * l.depth + 3

abbrev pub invariant-pass_items-items : goal.invariant-pass_items-items
invariant-pass_items-items l = ItemsLeft l.depth nothing nothing l.initial.reader l.reader

abbrev pub decreases-pass_items-items : goal.decreases-pass_items-items
decreases-pass_items-items l = length l.reader

abbrev pub invariant-pass_members-members : goal.invariant-pass_members-members
invariant-pass_members-members l = FoundLeft nothing l.depth l.initial.reader tt l.reader

abbrev pub decreases-pass_members-members : goal.decreases-pass_members-members
decreases-pass_members-members l = length l.reader
