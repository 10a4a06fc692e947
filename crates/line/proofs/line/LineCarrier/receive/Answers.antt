-- What `receive` leaves and answers.
use Rattle.std.proofs.Common.{◌≡◌, ◌-◌, ◌++◌, length, take, drop, ap, ◌∙◌, subst, arith}
use Rattle.std.proofs.lemmas.List.{length-append, length-take-le, length-drop}
use Rattle.stack.specs.Buffers.{Bytes, zeros}
use Rattle.stack.specs.Bodies.{cleared}
use Rattle.line.specs.Line.{prices, Chosen}
use Rattle.line.proofs.Choosing.{got_chosen}
use Rattle.line.proofs.line.LineCarrier.receive.Goals as goal

pub returns : goal.returns
returns g c = λ _.
    let self = c.args.self.now in
    let price = prices g.R.Reading.cost self.helical.grid.rows self.helical.grid.columns c.args.readings.now in
    let front : length (take (self.length - 0) c.clear.new.buffer) ≡ self.length - 0 = length-take-le (self.length - 0) c.clear.new.buffer (omega (arith, c.requires)) in
    let x = c.read_body-symbols.new.body in
    let b = c.clear.new.buffer in
    let long : length x ≡ self.length - 0 = c.read_body-symbols.auto.body ∙ front in
    let chosen : Chosen self.rate price (self.length - 0) x c.read_body-symbols.result = subst (λ n. Chosen self.rate price n x c.read_body-symbols.result) front c.read_body-symbols.ensures in
    let small : Bytes (x ++ drop (self.length - 0) b) = λ k. omega (arith, c.type_inv.first k) in
    let n = c.step_need-count.result - 0 in
    let t = c.args.steps.now in
    let run : length c.read_body-symbols.new.decisions ≡ n = c.read_body-symbols.auto.decisions ∙ length-take-le n t (omega (arith, c.requires)) in
    let whole : length (c.read_body-symbols.new.decisions ++ drop n t) ≡ length t = length-append c.read_body-symbols.new.decisions (drop n t) ∙ omega (arith, length-drop n t, c.requires) in
    let steps : c.clear-3.new.buffer ≡ zeros (length t) = cleared _ _ c.clear-3.ensures ∙ ap zeros whole in
    got_chosen self.rate price self.length (self.length - 0) {a = c.args.first.now} {b = c.args.second.now} {t = c.args.steps.now} {x = x} {c = b} (omega arith) chosen long small (cleared _ _ c.clear.ensures) (cleared _ _ c.clear-2.ensures) steps
