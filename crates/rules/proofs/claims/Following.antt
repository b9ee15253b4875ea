-- Claim 8, of any memory: what following tests, and that a record's replica can be followed where the record was.
use Rattle.rules.specs.Claims.{FollowedExactly, ReplicaFollowed}
use Rattle.rules.proofs.memory.Followed.{follow_passes, passed-follow, replica_follows, replica-counts}

pub followed_exactly : FollowedExactly
unfolding FollowedExactly
followed_exactly M v = (passed-follow M v, follow_passes)

pub replica-followed : ReplicaFollowed
unfolding ReplicaFollowed
replica-followed M v e n =
    let k = passed-follow M v e in
    let c = replica-counts k n in
    (follow_passes (replica_follows k n), c.0, c.1)
