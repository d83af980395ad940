use Rattle.std.proofs.Common.{rules, sym, arith}
use Rattle.expressions.specs.Storing.{parts_of}
use Rattle.traces.proofs.Led.{leading, leading_once}
use Rattle.traces.proofs.trace.trace.Goals as goal

pub returns-then-u-n : goal.returns-then-u-n
returns-then-u-n c = record {
  found = _;
  led = leading (parts_of c.args.parts.now) c.args.table.now c.args.n c.args.parts.now.formed _ c.args.u c.args.v (omega (arith, c.args.parts.now.some));
  once = λ other h. sym (leading_once (parts_of c.args.parts.now) c.args.table.now c.args.n c.args.parts.now.formed _ c.args.u c.args.v (omega (arith, c.args.parts.now.some)) other h);
  taken = search rules;
}

pub returns-in_err-cells : goal.returns-in_err-cells
returns-in_err-cells c = record {
  found = _;
  led = leading (parts_of c.args.parts.now) c.args.table.now c.args.n c.args.parts.now.formed _ c.args.u c.args.v (omega (arith, c.args.parts.now.some));
  once = λ other h. sym (leading_once (parts_of c.args.parts.now) c.args.table.now c.args.n c.args.parts.now.formed _ c.args.u c.args.v (omega (arith, c.args.parts.now.some)) other h);
  taken = search rules;
}

pub returns : goal.returns
returns c = record {
  found = _;
  led = leading (parts_of c.args.parts.now) c.args.table.now c.args.n c.args.parts.now.formed _ c.args.u c.args.v (omega (arith, c.args.parts.now.some));
  once = λ other h. sym (leading_once (parts_of c.args.parts.now) c.args.table.now c.args.n c.args.parts.now.formed _ c.args.u c.args.v (omega (arith, c.args.parts.now.some)) other h);
  taken = search rules;
}
