-- Lemmas: a client's copy of the energy of a meter's past quarter hours stays correct, unless a
-- later record voids (withdraws) an earlier meter entry.
pub mod StayingEntries
pub mod StayingShares
pub mod StayingRows
pub mod Parts
