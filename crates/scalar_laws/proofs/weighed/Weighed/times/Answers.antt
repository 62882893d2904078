use Rattle.scalar_laws.proofs.Products.{product_fits, product_stored, product_made}
use Rattle.scalar_laws.proofs.weighed.Weighed.times.Goals as goal

pub overflow_mul-result : goal.overflow_mul-result
overflow_mul-result c =
    product_fits c.args.self.value c.args.self.weight c.args.other.value c.args.other.weight c.args.self.valid c.args.other.valid
    c.product_of-weight.result c.product_of-weight.ensures c.if-weight-gt-MAX_WEIGHT.false

pub invariant_of-result : goal.invariant_of-result
invariant_of-result c = record {
  valid = product_stored c.args.self.value c.args.self.weight c.args.other.value c.args.other.weight c.args.self.valid c.args.other.valid
      c.product_of-weight.result c.product_of-weight.ensures c.if-weight-gt-MAX_WEIGHT.false;
}

pub returns : goal.returns
returns c =
    product_made c.args.self.value c.args.self.weight c.args.other.value c.args.other.weight c.args.self.valid c.args.other.valid
    c.product_of-weight.result c.product_of-weight.ensures c.if-weight-gt-MAX_WEIGHT.false
