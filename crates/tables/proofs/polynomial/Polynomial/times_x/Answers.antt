use Rattle.std.proofs.Common.{◌≡◌, ℕ, ◌*◌, ◌%◌, ◌^◌, ◌<◌, ◌≤◌, arith, pow_mono}
use Rattle.tables.proofs.Polynomials.{next_if_below, next_if_not_below}
use Rattle.tables.proofs.polynomial.Polynomial.times_x.Goals as goal

doubled : (d r : ℕ) → d ≤ 8 → r < 2 ^ d → r * 2 % 65536 ≡ 2 * r
doubled d r h l = omega (arith, pow_mono {i = d} {j = 8} h)

pub returns-then-doubled-self-eq0 : goal.returns-then-doubled-self-eq0
returns-then-doubled-self-eq0 c =
    let is = doubled c.args.self.now.degree c.args.remainder c.args.self.now.low c.requires in
    let x = next_if_below c.args.self.now.degree c.args.self.now.bits c.args.remainder (c.args.remainder * 2 % 65536) is c.if-doubled-self-eq0.true in
    record { small = x.0; next = x.1 }

pub returns-else-doubled-self-eq0 : goal.returns-else-doubled-self-eq0
returns-else-doubled-self-eq0 c =
    let is = doubled c.args.self.now.degree c.args.remainder c.args.self.now.low c.requires in
    let x = next_if_not_below c.args.self.now.degree c.args.self.now.bits c.args.remainder (c.args.remainder * 2 % 65536) c.args.self.now.top c.requires is c.if-doubled-self-eq0.false in
    record { small = x.0; next = x.1 }
