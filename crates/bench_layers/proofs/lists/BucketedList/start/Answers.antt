use Rattle.std.proofs.Common.{vec_len, sym}
use Rattle.split_key.specs.Keys.{key_of_item}
use Rattle.bench_layers.proofs.DummyLaws.{read-has_key_at_most, bucket-below}
use Rattle.bench_layers.proofs.lists.BucketedList.start.Goals as goal

pub returns : goal.returns
returns c =
    let below = bucket-below c.args.hash c.len-buckets.result c.bucket_of-bucket.result (vec_len c.args.self.now.dummies) c.bucket_of-bucket.ensures c.len-buckets.ensures c.requires.power in
    let interval = c.bucket_is_interval.ensures.0 (sym c.bucket_of-bucket.ensures) in
    read-has_key_at_most c.bucket_of-bucket.result c.index.result.now (vec_len c.args.self.now.dummies) (key_of_item c.args.hash) c.args.self.now.dummies.items c.args.self.now.list.cells c.index.ensures below c.args.self.now.dummies.ok.0 c.requires.dummies interval.0
