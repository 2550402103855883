mod Picking
