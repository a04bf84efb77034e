-- `checked_limits::past` meets its contract: where 65,537 bytes are left, any record that is narrow enough fits. Assumes nothing.
use native.Mathlib.Omega.{arith}
use mathlib.Core.Path.{sym}
use Prim.Native.Nat.{◌+◌, ◌*◌, ◌-◌, ◌/◌, ◌%◌}
use Rattle.checked_limits.proofs.Limits.{same_test}
use borrow.Author.Tests.{lt-ltb}
use Rattle.checked_limits.proofs.past.Goals as goal

pub returns-then-len-skipped : goal.returns-then-len-skipped
returns-then-len-skipped c =
    let a = c.args in sym (lt-ltb (8 * a.len) (a.offset + a.width) (omega arith))

pub returns : goal.returns
returns c =
    let a = c.args in
    same_test (8 * (a.len - a.offset / 8)) (a.offset % 8 + a.width) (8 * a.len) (a.offset + a.width) (λ h. omega arith)
    (λ h. omega arith)
